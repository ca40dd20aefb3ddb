-- A table stays one when a value is replaced, a new key is written or a key is removed.
use Rattle.std.proofs.Common.{◌≡◌, ℕ, Bool, true, false, is_some, if◌then◌else◌, suc, ◌+◌, ◌<◌, ◌≤◌, List, [], ◌∷◌, ◌++◌, length, map}
use Rattle.std.proofs.Common.{Option, Some, None, IsSome, IfSome, refl, sym, ◌∙◌, ap, subst, arith, length-append}
use Rattle.std.specs.List.{AllByRecursion}
use Rattle.std.specs.List.Sorted.{IsStrictlySortedBy}
use Rattle.std.proofs.lemmas.List.{length-map, map-append}
use Rattle.std.proofs.lemmas.Cmp.{nat_list_cmp_total}
use Rattle.std.proofs.lemmas.Map.Lookups.{exact_bytes}
use Rattle.std.specs.Option.{option_map}
use Rattle.std.specs.Ordering.{is_lt}
use Rattle.xb_words.specs.Table.{with_value, without, entries_after, entry_after, first_of}
use Rattle.xbgp_maps.specs.declared.node.Node.{Node}
use Rattle.xbgp_maps.specs.declared.shape.MapShape.{MapShape}
use Rattle.xbgp_maps.specs.Journals.{when_done}
use Rattle.xbgp_maps.specs.Mappings.{Mapping, HasWidths, IsMapping, key_cmp, value_in, put_in, taken_from}
use Rattle.xbgp_maps.specs.Tables.{IsTable, IsBlank}
use Rattle.xbgp_maps.specs.Trees.{HaveWidth, IsAlone}
use Rattle.xb_words.proofs.ListLemmas.{AllByRecursion-left, AllByRecursion-right, AllByRecursion-push}
use Rattle.xb_words.proofs.TableLemmas.{AllByRecursion-with_value, AllByRecursion-without}
use Rattle.xb_words.proofs.TableLemmas.{AllByRecursion-with_value-over, value_at-some, length-with_value-new}
use Rattle.xb_words.proofs.TableLemmas.{length-without, length-with_value-over, without-absent, IsRising-with_value}
use Rattle.xb_words.proofs.TableLemmas.{IsRising-without}

abbrev Entries : Type 0
Entries = List (List ℕ × List ℕ)

-- what holds of every spare node, and of the last of them
all_front : {A B : Type 0} (P : B → Type 0) (f : A → B) (xs : List A) (y : A) → AllByRecursion P (map f (xs ++ y ∷ [])) → AllByRecursion P (map f xs)
all_front P f xs y all = AllByRecursion-left P (map f xs) (f y ∷ []) (rw (map-append f xs (y ∷ [])) at all)

-- what holds of all spare nodes holds of the last
pub all_last : {A B : Type 0} (P : B → Type 0) (f : A → B) (xs : List A) (y : A) → AllByRecursion P (map f (xs ++ y ∷ [])) → P (f y)
all_last P f xs y all = (AllByRecursion-right P (map f xs) (f y ∷ []) (rw (map-append f xs (y ∷ [])) at all)).0

widths_values : (shape : MapShape) (es : Entries) → AllByRecursion (HasWidths shape) es → AllByRecursion (λ (e : List ℕ × List ℕ). length e.1 ≡ shape.value) es
widths_values shape [] a = tt
widths_values shape (e ∷ es) a = (a.0.1, widths_values shape es a.1)

-- each value of a map has its width
pub have_width : (m : Mapping) (w : ℕ) → IsMapping m → w ≡ m.shape.value → HaveWidth w m.entries
have_width m w kept is = record { all = subst (λ (n : ℕ). AllByRecursion (λ (e : List ℕ × List ℕ). length e.1 ≡ n) m.entries) (sym is) (widths_values m.shape m.entries kept.widths) }

the_value : (o : Option (List ℕ)) → IsSome o → (w : List ℕ) × (o ≡ Some w)
the_value None some = absurd (cc some)
the_value (Some w) some = (w, refl)

-- a table with a value replaced
pub table_over : (m : Mapping) (spare : List Node) (room : ℕ) (k v : List ℕ) → IsTable m spare room → IsSome (value_in m k) → length v ≡ m.shape.value → IsTable (put_in m k v) spare room
table_over m spare room k v table there width =
    let at = the_value (value_in m k) there in
    let rising = table.kept.rising in
    let same : length (with_value key_cmp m.entries k v) ≡ length m.entries = length-with_value-over key_cmp nat_list_cmp_total m.entries k v at.0 rising at.1 in
    record {
      kept = record {
        rising = IsRising-with_value key_cmp nat_list_cmp_total m.entries k v rising;
        room = rw same table.kept.room;
        widths = AllByRecursion-with_value-over key_cmp nat_list_cmp_total (HasWidths m.shape) m.entries k v at.0 rising at.1 (λ e p. (p.0, width)) table.kept.widths;
      };
      count = rw same table.count;
      capacity = table.capacity;
      blank = table.blank;
    }

-- whether a key is there, by the value before
pub there_if : (done : Bool) (v : List ℕ) (o : Option (List ℕ)) → o ≡ when_done done (Some v) None → done ≡ is_some o
there_if true v o is = sym (ap is_some is)
there_if false v o is = sym (ap is_some is)

-- a table with a value replaced, if the key is there
pub table_over_if : (m : Mapping) (spare : List Node) (room : ℕ) (k v : List ℕ) (done : Bool) → IsTable m spare room → done ≡ is_some (value_in m k) → length v ≡ m.shape.value → IsTable (record { shape = m.shape; entries = when_done done (with_value key_cmp m.entries k v) m.entries }) spare room
table_over_if m spare room k v true table there width = table_over m spare room k v table (sym there) width
table_over_if m spare room k v false table there width = table

-- a table with a new key, whose node is the last spare one
pub table_new : {B : Type 0} (f : B → Node) (m : Mapping) (all boxes : List B) (b : B) (room wider : ℕ) (k v : List ℕ) → IsTable m (map f all) room → all ≡ boxes ++ b ∷ [] → wider ≡ room → value_in m k ≡ None → length k ≡ m.shape.key → length v ≡ m.shape.value → IsTable (put_in m k v) (map f boxes) wider
table_new f m all boxes b room wider k v table cut same absent key value =
    let more : length (with_value key_cmp m.entries k v) ≡ suc (length m.entries) = length-with_value-new key_cmp m.entries k v absent in
    let fewer : length (map f (boxes ++ b ∷ [])) ≡ suc (length (map f boxes)) = simp (length-map, length-append) (omega arith) in
    let count : length m.entries + length (map f (boxes ++ b ∷ [])) ≡ m.shape.entries = rw (← cut) table.count in
    let capacity : m.shape.entries ≤ room = table.capacity in
    record {
      kept = record {
        rising = IsRising-with_value key_cmp nat_list_cmp_total m.entries k v table.kept.rising;
        room = omega (arith, more, fewer, count);
        widths = AllByRecursion-with_value key_cmp (HasWidths m.shape) m.entries k v (key, value) (λ e q p. (p.0, value)) table.kept.widths;
      };
      count = omega (arith, more, fewer, count);
      capacity = omega (arith, capacity, same);
      blank = all_front (IsBlank m.shape) f boxes b (subst (λ bs. AllByRecursion (IsBlank m.shape) (map f bs)) cut table.blank);
    }

-- there is room among the spare nodes for one that is removed
pub spare_below : (m : Mapping) (spare : List Node) (room : ℕ) (k w : List ℕ) → IsTable m spare room → value_in m k ≡ Some w → length spare < room
spare_below m spare room k w table there =
    let fewer : suc (length (without key_cmp m.entries k)) ≡ length m.entries = length-without key_cmp m.entries k w there in
    let count : length m.entries + length spare ≡ m.shape.entries = table.count in
    let capacity : m.shape.entries ≤ room = table.capacity in
    omega (arith, fewer, count, capacity)

-- a table without a key, whose node is kept
pub table_gone : {B : Type 0} (f : B → Node) (m : Mapping) (all boxes : List B) (b : B) (room more : ℕ) (k : List ℕ) → IsTable m (map f boxes) room → all ≡ boxes ++ b ∷ [] → value_in m k ≡ Some (f b).value.items → (f b).key.items ≡ k → IsAlone (f b) → room ≤ more → IsTable (taken_from m k) (map f all) more
table_gone f m all boxes b room more k table joined there key alone wider =
    let fewer : suc (length (without key_cmp m.entries k)) ≡ length m.entries = length-without key_cmp m.entries k (f b).value.items there in
    let another : length (map f (boxes ++ b ∷ [])) ≡ suc (length (map f boxes)) = simp (length-map, length-append) (omega arith) in
    let all_of : length (map f all) ≡ length (map f (boxes ++ b ∷ [])) = ap (λ bs. length (map f bs)) joined in
    let count : length m.entries + length (map f boxes) ≡ m.shape.entries = table.count in
    let entry = value_at-some key_cmp (HasWidths m.shape) m.entries k (f b).value.items table.kept.widths there in
    let same : k ≡ entry.0 = exact_bytes k entry.0 entry.1 in
    let width : length k ≡ m.shape.key = ap length same ∙ entry.2.0 in
    let capacity : m.shape.entries ≤ room = table.capacity in
    record {
      kept = record {
        rising = IsRising-without key_cmp nat_list_cmp_total m.entries k table.kept.rising;
        room = omega (arith, fewer, count);
        widths = AllByRecursion-without key_cmp (HasWidths m.shape) m.entries k table.kept.widths;
      };
      count = omega (arith, fewer, another, all_of, count);
      capacity = omega (arith, capacity, wider);
      blank = subst (λ bs. AllByRecursion (IsBlank m.shape) (map f bs)) (sym joined) (rw (map-append f boxes (b ∷ [])) (AllByRecursion-push (IsBlank m.shape) (map f boxes) (f b) table.blank (record { key = ap length key ∙ width; value = entry.2.1; alone = alone })));
    }

-- a key that is absent changes nothing
pub table_absent : (m : Mapping) (spare : List Node) (room : ℕ) (k : List ℕ) → IsTable m spare room → value_in m k ≡ None → IsTable (taken_from m k) spare room
table_absent m spare room k table absent =
    subst (λ (es : Entries). IsTable (record { shape = m.shape; entries = es }) spare room) (sym (without-absent key_cmp m.entries k absent)) table

-- its map is the same
pub taken_absent : (m : Mapping) (k : List ℕ) → value_in m k ≡ None → taken_from m k ≡ m
taken_absent m k absent = ap (λ (es : Entries). record { shape = m.shape; entries = es }) (without-absent key_cmp m.entries k absent)

-- a table without entries
pub table_empty : (shape : MapShape) (spare : List Node) (room : ℕ) → length spare ≡ shape.entries → shape.entries ≤ room → AllByRecursion (IsBlank shape) spare → IsTable (record { shape = shape; entries = [] }) spare room
unfolding IsStrictlySortedBy
table_empty shape spare room count enough blank = record {
  kept = record { rising = tt; room = omega arith; widths = tt };
  count = omega (arith, count);
  capacity = enough;
  blank = blank;
}

all_first : {A : Type 0} (P : A → Type 0) (xs : List A) (x : A) → AllByRecursion P xs → first_of xs ≡ Some x → P x
all_first P [] x all is = absurd (cc is)
all_first P (y ∷ ys) x all is = let same : y ≡ x = cc is in subst P same all.0

all_after : (P : List ℕ × List ℕ → Type 0) (es : Entries) (after : Option (List ℕ)) → AllByRecursion P es → AllByRecursion P (entries_after key_cmp es after)
all_after P es None all = all
all_after P es (Some k) all = by es all
  where
    by : (es : Entries) → AllByRecursion P es → AllByRecursion P (entries_after key_cmp es (Some k))
    by [] all = tt
    by (e ∷ es) all = elim (is_lt (key_cmp k e.0)) as (λ b. AllByRecursion P (if b then e ∷ entries_after key_cmp es (Some k) else entries_after key_cmp es (Some k))) [
      | true ↦ (all.0, by es all.1)
      | false ↦ by es all.1
    ]

-- an entry of a walk has the widths of its map
pub entry_widths : {B : Type 0} (now : B → List ℕ × List ℕ) (m : Mapping) (after : Option (List ℕ)) (o : Option B) → IsMapping m
    → option_map now o ≡ entry_after key_cmp m.entries after → IfSome o (λ b. HasWidths m.shape (now b))
entry_widths now m after None kept is = tt
entry_widths now m after (Some b) kept is =
    all_first (HasWidths m.shape) (entries_after key_cmp m.entries after) (now b) (all_after (HasWidths m.shape) m.entries after kept.widths) (sym is)

-- a value that is there has the width of its map
pub width_there : (m : Mapping) (k v : List ℕ) → IsMapping m → value_in m k ≡ Some v → length v ≡ m.shape.value
width_there m k v kept is = (value_at-some key_cmp (HasWidths m.shape) m.entries k v kept.widths is).2.1

-- a value that is looked up has the width of its map
pub value_width : {B : Type 0} (now : B → List ℕ) (m : Mapping) (k : List ℕ) (o : Option B) → IsMapping m → option_map now o ≡ value_in m k
    → IfSome o (λ b. length (now b) ≡ m.shape.value)
value_width now m k None kept is = tt
value_width now m k (Some b) kept is = (value_at-some key_cmp (HasWidths m.shape) m.entries k (now b) kept.widths (sym is)).2.1

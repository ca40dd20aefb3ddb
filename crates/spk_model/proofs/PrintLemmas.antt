-- Walks over the tables of a speaker, a line for each entry.
use Rattle.std.proofs.Common.{◌≡◌, ℕ, zero, suc, ◌+◌, ◌-◌, ◌<◌, ◌≤◌, List, [], ◌∷◌, ◌++◌, length, take, drop, map}
use Rattle.std.proofs.Common.{flat_map, Option, Some, None, refl, sym, ◌∙◌, ap, arith, add-one, drop-cons}
use Rattle.std.specs.Prelude.{zip}
use Rattle.std.specs.Option.{option_map, option_and_then}
use Rattle.std.specs.Cmp.{IsTotalOrder}
use Rattle.std.specs.declared.cmp.Ordering.{Ordering}
use Rattle.std.specs.List.{slice_get, range_with_len}
use Rattle.std.proofs.lemmas.List.{drop_all, length-map, map_push, map_more}
use Rattle.std.proofs.lemmas.Option.{slice_get_within, get_or_from_slice_get, slice_get-map}
use Rattle.xb_words.specs.Table.{entry_after, entries_after, IsRising}
use Rattle.xb_words.proofs.TableLemmas.{entries_after-some, entries_after-none}
use Rattle.xb_values.specs.Buffers.{Buffer}
use Rattle.xb_values.specs.Prefixes.{Prefix, prefix_cmp}
use Rattle.bgp_attr.specs.Routes.{canon}
use Rattle.xbgp_maps.specs.Mappings.{Mapping, key_cmp, mapping_at}
use Rattle.xbgp_manifest.specs.declared.entries.MapEntry.{MapEntry}
use Rattle.xbgp_manifest.specs.declared.entries.ProgramEntry.{ProgramEntry}
use Rattle.xbgp_points.specs.Chains.{numbered}
use Rattle.table_print.specs.Lines.{adv_line, route_line}
use Rattle.spk_model.specs.Routing.{Chosen}
use Rattle.spk_model.specs.Turning.{Speaker}
use Rattle.spk_model.specs.Readers.{showing, entries_in, map_entries, map_entry_after}
use Rattle.spk_model.specs.Reports.{adv_line_of, entry_lines, lines_of_map, numbered_fault_lines, program_fault_lines}
use Rattle.spk_model.specs.Reports.{route_line_of}

-- ---- a walk by keys

module _ {K X : Type 0} (c : K → K → Ordering) (o : IsTotalOrder c) (f : K × X → List ℕ) where
  -- the lines after a key begin with the next entry's
  pub lines_after-some : (es : List (K × X)) (after : Option K) (e : K × X) → IsRising c es
      → entry_after c es after ≡ Some e
      → flat_map f (entries_after c es after) ≡ f e ++ flat_map f (entries_after c es (Some e.0))
  lines_after-some es after e rising is = ap (flat_map f) (entries_after-some c o es after e rising is)

  -- after the last entry there are no lines
  pub lines_after-none : (es : List (K × X)) (after : Option K) → entry_after c es after ≡ None
      → flat_map f (entries_after c es after) ≡ []
  lines_after-none es after is = ap (flat_map f) (entries_after-none c o es after is)

  -- fewer entries are left
  pub fewer_after : (es : List (K × X)) (after : Option K) (e : K × X) → IsRising c es
      → entry_after c es after ≡ Some e
      → length (entries_after c es (Some e.0)) < length (entries_after c es after)
  fewer_after es after e rising is = rw (entries_after-some c o es after e rising is) (omega arith)

-- what an optional value is of which a part is known
pub found : {E Y : Type 0} (g : E → Y) (o : Option E) (y : Y) → option_map g o ≡ Some y → (e : E) × (o ≡ Some e) ×
    (g e ≡ y)
found g None y e = absurd (cc e)
found g (Some x) y e = (x, refl, cc e)

pub not_found : {E Y : Type 0} (g : E → Y) (o : Option E) → option_map g o ≡ None → o ≡ None
not_found g None e = refl
not_found g (Some x) e = absurd (cc e)

-- ---- a walk by indexes

-- the element at an index, before those after it
pub drop_at : {A : Type 0} (xs : List A) (i : ℕ) (x : A) → slice_get xs i ≡ Some x → drop i xs ≡ x ∷ drop (i + 1) xs
drop_at xs i x h = rw add-one (drop-cons xs i x (slice_get_within xs i x h) ∙ ap (λ y. y ∷ drop (suc i) xs)
    (get_or_from_slice_get xs i x x h))

-- the lines from an index on
pub lines_at : {A : Type 0} (f : A → List ℕ) (xs : List A) (i : ℕ) (x : A) → slice_get xs i ≡ Some x
    → flat_map f (drop i xs) ≡ f x ++ flat_map f (drop (i + 1) xs)
lines_at f xs i x is = ap (flat_map f) (drop_at xs i x is)

-- what was made of the elements so far, and then of the next
pub made_next : {A B X : Type 0} (v : A → B) (w : X → B) (made : List A) (xs : List X) (i : ℕ) (a : A) (x : X)
    → map v made ≡ map w (take i xs) → slice_get xs i ≡ Some x → v a ≡ w x
    → map v (made ++ a ∷ []) ≡ map w (take (i + 1) xs)
made_next v w made xs i a x so_far is same =
    map_push v made a ∙ ap (λ l. l ++ v a ∷ []) so_far
    ∙ ap (λ y. map w (take i xs) ++ y ∷ []) (same ∙ ap w (sym (get_or_from_slice_get xs i x x is)))
    ∙ sym (map_more w xs i x (slice_get_within xs i x is))

-- the element at an index of a list that was made of another
pub made_at : {A B : Type 0} (v : A → B) (xs : List A) (i : ℕ) (y : B) → slice_get (map v xs) i ≡ Some y
    → (x : A) × (slice_get xs i ≡ Some x) × (v x ≡ y)
made_at v xs i y is = found v (slice_get xs i) y (sym (slice_get-map v xs i) ∙ is)

-- the lines of the peers from a number on
pub lines_of_peers : (f : ℕ → List ℕ) (i n : ℕ) → i < n
    → flat_map f (range_with_len (i + 1) (n - i))
    ≡ f (i + 1) ++ flat_map f (range_with_len (i + 1 + 1) (n - (i + 1)))
lines_of_peers f i n less =
    let more : n - i ≡ suc (n - (i + 1)) = omega (arith, less) in
    ap (λ k. flat_map f (range_with_len (i + 1) k)) more

maps_from : (entries : List MapEntry) (maps : List Mapping) (i : ℕ) (entry : MapEntry)
    → slice_get entries i ≡ Some entry
    → flat_map lines_of_map (drop i (zip entries maps))
    ≡ entry_lines entry.name (entries_in (mapping_at maps i)) ++ flat_map lines_of_map (drop (suc i) (zip entries maps))
maps_from [] maps i entry is = absurd (cc is)
maps_from (x ∷ entries) [] zero entry is = refl
maps_from (x ∷ entries) [] (suc i) entry is = refl
maps_from (x ∷ entries) (m ∷ maps) zero entry is =
    let same : x ≡ entry = cc is in
    ap (λ (e : MapEntry). entry_lines e.name m.entries ++ flat_map lines_of_map (zip entries maps)) same
maps_from (x ∷ entries) (m ∷ maps) (suc i) entry is = maps_from entries maps i entry is

-- the lines of the maps from an index on
pub lines_of_maps : (entries : List MapEntry) (maps : List Mapping) (i : ℕ) (entry : MapEntry)
    → slice_get entries i ≡ Some entry
    → flat_map lines_of_map (drop i (zip entries maps))
    ≡ entry_lines entry.name (entries_in (mapping_at maps i)) ++ flat_map lines_of_map (drop (i + 1) (zip entries maps))
lines_of_maps entries maps i entry is = rw add-one (maps_from entries maps i entry is)

abbrev numbered_pair : ℕ → ProgramEntry → Option (ℕ × ProgramEntry)
numbered_pair n p = Some (n, p)

-- a program with its number
numbered_at : (n : ℕ) (programs : List ProgramEntry) (i : ℕ) (p : ProgramEntry) → slice_get programs i ≡ Some p
    → slice_get (numbered n programs) i ≡ numbered_pair (n + i) p
numbered_at n [] i p is = absurd (cc is)
numbered_at n (q ∷ programs) zero p is =
    let same : q ≡ p = cc is in
    let none : n ≡ n + 0 = omega arith in
    ap (λ (e : ProgramEntry). numbered_pair n e) same ∙ ap (λ (k : ℕ). numbered_pair k p) none
numbered_at n (q ∷ programs) (suc i) p is =
    let same : n + 1 + i ≡ n + suc i = omega arith in
    numbered_at (n + 1) programs i p is ∙ ap (λ (k : ℕ). numbered_pair k p) same

-- the lines of the programs from an index on
pub lines_of_programs : (s : Speaker) (programs : List ProgramEntry) (i : ℕ) (p : ProgramEntry)
    → slice_get programs i ≡ Some p
    → flat_map (numbered_fault_lines s) (drop i (numbered 0 programs))
    ≡ program_fault_lines s i p.name p.point ++ flat_map (numbered_fault_lines s) (drop (i + 1) (numbered 0 programs))
lines_of_programs s programs i p is =
    let same : 0 + i ≡ i = omega arith in
    lines_at (numbered_fault_lines s) (numbered 0 programs) i (i, p)
    (numbered_at 0 programs i p is ∙ ap (λ (k : ℕ). numbered_pair k p) same)

-- the first entry of a map after a key
entry_in : (o : Option Mapping) (after : Option (List ℕ))
    → entry_after key_cmp (entries_in o) after ≡ option_and_then (λ m. entry_after key_cmp m.entries after) o
entry_in None None = refl
entry_in None (Some k) = refl
entry_in (Some m) after = refl

pub map_entry : (s : Speaker) (map : ℕ) (after : Option (List ℕ))
    → entry_after key_cmp (map_entries s map) after ≡ map_entry_after s map after
map_entry s map after = entry_in (mapping_at ((s.routing).engine).maps map) after

some_same : {A : Type 0} (x y : A) → Some x ≡ Some y → x ≡ y
some_same x y e = cc e

-- what a reader says of a best route
pub shown_route : (best : List (Prefix × Chosen)) (after : Option Prefix) (shown : Prefix × ℕ) (old new : Buffer)
    → Some shown ≡ option_map (λ e. (e.0, (e.1).source)) (entry_after prefix_cmp best after)
    → new ≡ showing old (option_map (λ e. canon (e.1).route) (entry_after prefix_cmp best after))
    → (e : Prefix × Chosen) × (entry_after prefix_cmp best after ≡ Some e) × (shown.0 ≡ e.0)
    × (route_line shown.0 shown.1 new.octets ≡ route_line_of e) × (new.capacity ≡ old.capacity)
shown_route best after shown old new = by (entry_after prefix_cmp best after)
  where
    by : (o : Option (Prefix × Chosen)) → Some shown ≡ option_map (λ e. (e.0, (e.1).source)) o
        → new ≡ showing old (option_map (λ e. canon (e.1).route) o)
        → (e : Prefix × Chosen) × (o ≡ Some e) × (shown.0 ≡ e.0)
        × (route_line shown.0 shown.1 new.octets ≡ route_line_of e) × (new.capacity ≡ old.capacity)
    by None is holds = absurd (cc is)
    by (Some e) is holds =
        let at : shown.0 ≡ e.0 = ap (λ (x : Prefix × ℕ). x.0) (some_same shown (e.0, (e.1).source) is) in
        let from : shown.1 ≡ (e.1).source = ap (λ (x : Prefix × ℕ). x.1) (some_same shown (e.0, (e.1).source) is) in
        let text : new.octets ≡ canon (e.1).route = ap (λ (b : Buffer). b.octets) holds in (
          e,
          refl,
          at,
          ap (λ (x : Prefix). route_line x shown.1 new.octets) at
              ∙ ap (λ (n : ℕ). route_line e.0 n new.octets) from
              ∙ ap (λ (l : List ℕ). route_line e.0 (e.1).source l) text,
          ap (λ (b : Buffer). b.capacity) holds,
        )

-- what a reader says of a section that a peer is advertised
pub shown_adv : (adv : List (Prefix × List ℕ)) (peer : ℕ) (after : Option Prefix) (prefix : Prefix) (old new : Buffer)
    → Some prefix ≡ option_map (λ e. e.0) (entry_after prefix_cmp adv after)
    → new ≡ showing old (option_map (λ e. e.1) (entry_after prefix_cmp adv after))
    → (e : Prefix × List ℕ) × (entry_after prefix_cmp adv after ≡ Some e) × (prefix ≡ e.0)
    × (adv_line peer prefix new.octets ≡ adv_line_of peer e) × (new.capacity ≡ old.capacity)
shown_adv adv peer after prefix old new = by (entry_after prefix_cmp adv after)
  where
    by : (o : Option (Prefix × List ℕ)) → Some prefix ≡ option_map (λ e. e.0) o
        → new ≡ showing old (option_map (λ e. e.1) o)
        → (e : Prefix × List ℕ) × (o ≡ Some e) × (prefix ≡ e.0)
        × (adv_line peer prefix new.octets ≡ adv_line_of peer e) × (new.capacity ≡ old.capacity)
    by None is shown = absurd (cc is)
    by (Some e) is shown =
        let at : prefix ≡ e.0 = cc is in
        let text : new.octets ≡ e.1 = ap (λ (b : Buffer). b.octets) shown in (
          e,
          refl,
          at,
          ap (λ (x : Prefix). adv_line peer x new.octets) at ∙ ap (λ (l : List ℕ). adv_line peer e.0 l) text,
          ap (λ (b : Buffer). b.capacity) shown,
        )

length-numbered : (n : ℕ) (programs : List ProgramEntry) → length (numbered n programs) ≡ length programs
length-numbered n [] = refl
length-numbered n (p ∷ programs) = ap suc (length-numbered (n + 1) programs)

-- after the last program there are no lines
pub lines_of_no_programs : (s : Speaker) (programs : List ProgramEntry) (i : ℕ) → length programs ≤ i
    → flat_map (numbered_fault_lines s) (drop i (numbered 0 programs)) ≡ []
lines_of_no_programs s programs i past =
    ap (flat_map (numbered_fault_lines s))
    (drop_all i (numbered 0 programs) (omega (arith, past, length-numbered 0 programs)))

length-zip : {A B : Type 0} (xs : List A) (ys : List B) → length (zip xs ys) ≤ length xs
length-zip [] ys = omega arith
length-zip (x ∷ xs) [] = omega arith
length-zip (x ∷ xs) (y ∷ ys) = omega (arith, length-zip xs ys)

-- after the last map there are no lines
pub lines_of_no_maps : (entries : List MapEntry) (maps : List Mapping) (i : ℕ) → length entries ≤ i
    → flat_map lines_of_map (drop i (zip entries maps)) ≡ []
lines_of_no_maps entries maps i past =
    ap (flat_map lines_of_map) (drop_all i (zip entries maps) (omega (arith, past, length-zip entries maps)))

-- an index past all that was made of elements is past all of these
pub past_all : {B A : Type 0} (v : A → B) (xs : List A) (i : ℕ) → length (map v xs) ≤ i → length xs ≤ i
past_all v xs i past = omega (arith, past, length-map xs v)

-- A write and a removal are taken back, one alone and many from the last to the first.
use Rattle.std.proofs.Common.{◌≡◌, ℕ, zero, suc, ◌+◌, ◌-◌, ◌<◌, ◌≤◌, Bool, true, false, IsTrue, if◌then◌else◌, nat_le}
use Rattle.std.proofs.Common.{is_some, List, [], ◌∷◌, ◌++◌, length, take, Option, Some, None, MatchOption, IfSome}
use Rattle.std.proofs.Common.{IsSome, refl, sym, ◌∙◌, ap, subst, arith, length-append}
use Rattle.std.specs.List.{slice_get, slice_set, AllByRecursion}
use Rattle.std.proofs.lemmas.Cmp.{nat_list_cmp_total}
use Rattle.std.proofs.lemmas.Map.Lookups.{exact_bytes}
use Rattle.std.proofs.lemmas.Option.{slice_get_within}
use Rattle.std.proofs.lemmas.List.{length-set}
use Rattle.std.proofs.lemmas.Bool.Decides.{nat_tests}
use borrow.Author.Tests.{leb-false}
use Rattle.xbgp_maps.specs.declared.shape.MapShape.{MapShape}
use Rattle.xbgp_maps.specs.declared.shape.Put.{Put}
use Rattle.xbgp_maps.specs.declared.shape.Put.TheVariants as puts
use Rattle.xbgp_maps.specs.declared.shape.Remove.{Remove}
use Rattle.xbgp_maps.specs.declared.shape.Remove.TheVariants as removes
use Rattle.xb_words.specs.Table.{without}
use Rattle.xbgp_maps.specs.Mappings.{Mapping, IsMapping, Journalled, key_cmp, mapping_at, value_in, put_in, taken_from}
use Rattle.xbgp_maps.specs.Mappings.{put_answer, remove_answer, after_put, after_remove, is_full, written, empty_maps}
use Rattle.xbgp_maps.specs.Mappings.{is_from_1_to, shapes_of, closed, AreWithinLimits, HasWidths, IsShape}
use Rattle.xbgp_maps.specs.declared.limits.TheConstants.{MAX_KEY, MAX_VALUE, BUDGET}
use Rattle.xbgp_maps.specs.Journals.{Write, write_of, restored, taken_back, all_taken_back, CanTakeBack, CanTakeAllBack}
use Rattle.xbgp_maps.specs.Journals.{IsNarrow, IsUndoable, journal_view, when_done, was_put, was_removed}
use Rattle.xb_words.proofs.TableLemmas.{value_at-some, without-with_value, with_value-with_value, with_value-without}
use Rattle.xb_words.proofs.TableLemmas.{value_at-with_value, length-without}

get_again : (maps : List Mapping) (n : ℕ) (m after : Mapping) → slice_get maps n ≡ Some m → slice_get (slice_set maps n after) n ≡ Some after
get_again [] n m after there = absurd (cc there)
get_again (x ∷ xs) zero m after there = refl
get_again (x ∷ xs) (suc n) m after there = get_again xs n m after there

set_again : (maps : List Mapping) (n : ℕ) (m after : Mapping) → slice_get maps n ≡ Some m → slice_set (slice_set maps n after) n m ≡ maps
set_again [] n m after there = absurd (cc there)
set_again (x ∷ xs) zero m after there = let same : x ≡ m = cc there in ap (λ (y : Mapping). y ∷ xs) (sym same)
set_again (x ∷ xs) (suc n) m after there = ap (λ (ys : List Mapping). x ∷ ys) (set_again xs n m after there)

undo_put : (m : Mapping) (k v : List ℕ) (old : Option (List ℕ)) → IsMapping m → value_in m k ≡ old → restored (put_in m k v) k old ≡ m
undo_put m k v None kept at = ap (λ (es : List (List ℕ × List ℕ)). record m { entries = es }) (without-with_value key_cmp nat_list_cmp_total m.entries k v at)
undo_put m k v (Some w) kept at = ap (λ (es : List (List ℕ × List ℕ)). record m { entries = es }) (with_value-with_value key_cmp nat_list_cmp_total m.entries k v w kept.rising at)

undo_remove : (m : Mapping) (k w : List ℕ) → IsMapping m → value_in m k ≡ Some w → restored (taken_from m k) k (Some w) ≡ m
undo_remove m k w kept at = ap (λ (es : List (List ℕ × List ℕ)). record m { entries = es }) (with_value-without key_cmp nat_list_cmp_total exact_bytes m.entries k w kept.rising at)

one_back : (maps : List Mapping) (n : ℕ) (m after : Mapping) (k : List ℕ) (old : Option (List ℕ)) → slice_get maps n ≡ Some m → restored after k old ≡ m → taken_back (record { map = n; key = k; old = old }) (slice_set maps n after) ≡ maps
one_back maps n m after k old there is =
    let back : Option Mapping → List Mapping = λ o. elim o [ None ↦ slice_set maps n after | Some x ↦ slice_set (slice_set maps n after) n (restored x k old) ] in
    ap back (get_again maps n m after there) ∙ (ap (λ (x : Mapping). slice_set (slice_set maps n after) n x) is ∙ set_again maps n m after there)

-- the last of some writes is taken back first
all_back_push : (ws : List Write) (w : Write) (maps : List Mapping) → all_taken_back (ws ++ w ∷ []) maps ≡ all_taken_back ws (taken_back w maps)
all_back_push [] w maps = refl
all_back_push (x ∷ ws) w maps = ap (taken_back x) (all_back_push ws w maps)

can_push : (ws : List Write) (w : Write) (maps : List Mapping) → CanTakeAllBack ws (taken_back w maps) → CanTakeBack w maps → CanTakeAllBack (ws ++ w ∷ []) maps
can_push [] w maps all last = (tt, last)
can_push (x ∷ ws) w maps all last = (can_push ws w maps all.0 last, subst (CanTakeBack x) (sym (all_back_push ws w maps)) all.1)

can_pop : (ws : List Write) (w : Write) (maps : List Mapping) → CanTakeAllBack (ws ++ w ∷ []) maps → CanTakeAllBack ws (taken_back w maps) × CanTakeBack w maps
can_pop [] w maps all = (tt, all.1)
can_pop (x ∷ ws) w maps all =
    let rest = can_pop ws w maps all.0 in
    ((rest.0, subst (CanTakeBack x) (all_back_push ws w maps) all.1), rest.1)

-- the last write and those before it
cut_at : (ws : List Write) (n : ℕ) (w : Write) → length ws ≡ suc n → slice_get ws n ≡ Some w → ws ≡ take n ws ++ w ∷ []
cut_at [] n w len last = absurd (cc last)
cut_at (x ∷ []) zero w len last = let same : x ≡ w = cc last in ap (λ (y : Write). y ∷ []) same
cut_at (x ∷ y ∷ ws) zero w len last = absurd (omega (arith, len))
cut_at (x ∷ ws) (suc n) w len last = ap (λ (t : List Write). x ∷ t) (cut_at ws n w (omega (arith, len)) last)

cut_last : (ws : List Write) (w : Write) → slice_get ws (length ws - 1) ≡ Some w → ws ≡ take (length ws - 1) ws ++ w ∷ []
cut_last [] w last = absurd (cc last)
cut_last (x ∷ ws) w last =
    let len : suc (length ws) ≡ suc (suc (length ws) - 1) = omega arith in
    cut_at (x ∷ ws) (suc (length ws) - 1) w len last

last_there : (x : Write) (ws : List Write) → slice_get (x ∷ ws) (length ws) ≡ None → ⊥
last_there x [] none = cc none
last_there x (y ∷ ws) none = last_there y ws none

-- if there is no last write, there are no writes
pub no_last : (ws : List Write) → slice_get ws (length ws - 1) ≡ None → ws ≡ []
no_last [] none = refl
no_last (x ∷ ws) none =
    let len : suc (length ws) - 1 ≡ length ws = omega arith in
    absurd (last_there x ws (subst (λ n. slice_get (x ∷ ws) n ≡ None) len none))

-- the last write can be taken back
pub can_take_last : (ws : List Write) (w : Write) (maps : List Mapping) → slice_get ws (length ws - 1) ≡ Some w → CanTakeAllBack ws maps → CanTakeBack w maps
can_take_last ws w maps last all = (can_pop (take (length ws - 1) ws) w maps (subst (λ vs. CanTakeAllBack vs maps) (cut_last ws w last) all)).1

-- then the writes before it can
pub can_take_rest : (ws : List Write) (w : Write) (maps : List Mapping) → slice_get ws (length ws - 1) ≡ Some w → CanTakeAllBack ws maps → CanTakeAllBack (take (length ws - 1) ws) (taken_back w maps)
can_take_rest ws w maps last all = (can_pop (take (length ws - 1) ws) w maps (subst (λ vs. CanTakeAllBack vs maps) (cut_last ws w last) all)).0

-- taking back the last and then the others takes back all
pub last_then_rest : (ws : List Write) (w : Write) (maps : List Mapping) → slice_get ws (length ws - 1) ≡ Some w → all_taken_back (take (length ws - 1) ws) (taken_back w maps) ≡ all_taken_back ws maps
last_then_rest ws w maps last = sym (all_back_push (take (length ws - 1) ws) w maps) ∙ sym (ap (λ vs. all_taken_back vs maps) (cut_last ws w last))

all_at : (P : Mapping → Type 0) (maps : List Mapping) (n : ℕ) (m : Mapping) → slice_get maps n ≡ Some m → AllByRecursion P maps → P m
all_at P [] n m there a = absurd (cc there)
all_at P (x ∷ xs) zero m there a = let same : x ≡ m = cc there in subst P same a.0
all_at P (x ∷ xs) (suc n) m there a = all_at P xs n m there a.1

all_set : (P : Mapping → Type 0) (maps : List Mapping) (n : ℕ) (m : Mapping) → P m → AllByRecursion P maps → AllByRecursion P (slice_set maps n m)
all_set P [] n m p a = tt
all_set P (x ∷ xs) zero m p a = (p, a.1)
all_set P (x ∷ xs) (suc n) m p a = (a.0, all_set P xs n m p a.1)

set_same : (maps : List Mapping) (n : ℕ) (m : Mapping) → slice_get maps n ≡ Some m → slice_set maps n m ≡ maps
set_same [] n m there = absurd (cc there)
set_same (x ∷ xs) zero m there = let same : x ≡ m = cc there in ap (λ (y : Mapping). y ∷ xs) (sym same)
set_same (x ∷ xs) (suc n) m there = ap (λ (ys : List Mapping). x ∷ ys) (set_same xs n m there)

-- what is taken back has the shapes of before
narrow_back_one : (w : Write) (maps : List Mapping) → AllByRecursion IsNarrow maps → AllByRecursion IsNarrow (taken_back w maps)
narrow_back_one w maps narrow = by (mapping_at maps w.map) refl
  where
    of : (m : Mapping) (old : Option (List ℕ)) → IsNarrow m → IsNarrow (restored m w.key old)
    of m None n = record { key = n.key; value = n.value }
    of m (Some v) n = record { key = n.key; value = n.value }

    by : (o : Option Mapping) → mapping_at maps w.map ≡ o → AllByRecursion IsNarrow (elim o [ None ↦ maps | Some m ↦ slice_set maps w.map (restored m w.key w.old) ])
    by None is = narrow
    by (Some m) is = all_set IsNarrow maps w.map (restored m w.key w.old) (of m w.old (all_at IsNarrow maps w.map m is narrow)) narrow

narrow_back : (ws : List Write) (maps : List Mapping) → AllByRecursion IsNarrow maps → AllByRecursion IsNarrow (all_taken_back ws maps)
narrow_back [] maps narrow = narrow
narrow_back (w ∷ ws) maps narrow = narrow_back_one w (all_taken_back ws maps) (narrow_back ws maps narrow)

-- maps whose run was undone
pub undoable_undone : (ws vs : List Write) (maps after : List Mapping) → IsUndoable ws maps → vs ≡ [] → after ≡ all_taken_back ws maps → IsUndoable vs after
undoable_undone ws vs maps after undoable none is = rw (none, is) (record { back = tt; narrow = narrow_back ws maps undoable.narrow; budget = omega arith })

-- with no write left, the tables are those from before the first
pub undone_tables : (vs ws : List Write) (now maps : List Mapping) → slice_get vs (length vs - 1) ≡ None → all_taken_back vs now ≡ all_taken_back ws maps → now ≡ all_taken_back ws maps
undone_tables vs ws now maps none same = ap (λ us. all_taken_back us now) (sym (no_last vs none)) ∙ same

-- the maps as at the begin of a run that was open
pub undone_is : (is_open : Bool) (ws vs : List Write) (maps after : List Mapping) → after ≡ all_taken_back ws maps → IfSome (journal_view is_open ws maps).began (λ began. journal_view false vs after ≡ closed began)
undone_is true ws vs maps after is = ap closed is
undone_is false ws vs maps after is = tt

-- a write that was done can be taken back
can_put : (maps : List Mapping) (n : ℕ) (m : Mapping) (k v : List ℕ) → slice_get maps n ≡ Some m → IsMapping m → length k ≡ m.shape.key → CanTakeBack (write_of n m k) (slice_set maps n (put_in m k v))
can_put maps n m k v there kept width = record {
  exists = simp length-set (slice_get_within maps n m there);
  fits = rw (get_again maps n m (put_in m k v) there) (width, by (value_in m k) refl);
}
  where
    by : (old : Option (List ℕ)) → value_in m k ≡ old → MatchOption old (Unit {0}) (λ value. (length value ≡ m.shape.value) × (value_in (put_in m k v) k ≡ None → length (put_in m k v).entries < m.shape.entries))
    by None is = tt
    by (Some w) is =
        let entry = value_at-some key_cmp (HasWidths m.shape) m.entries k w kept.widths is in
        (entry.2.1, λ none. absurd (cc (none, value_at-with_value key_cmp nat_list_cmp_total m.entries k v)))

can_remove : (maps : List Mapping) (n : ℕ) (m : Mapping) (k w : List ℕ) → slice_get maps n ≡ Some m → IsMapping m → length k ≡ m.shape.key → value_in m k ≡ Some w → CanTakeBack (write_of n m k) (slice_set maps n (taken_from m k))
can_remove maps n m k w there kept width is =
    let entry = value_at-some key_cmp (HasWidths m.shape) m.entries k w kept.widths is in
    let fewer : suc (length (without key_cmp m.entries k)) ≡ length m.entries = length-without key_cmp m.entries k w is in
    let room : length m.entries ≤ m.shape.entries = kept.room in
    record {
      exists = simp length-set (slice_get_within maps n m there);
      fits = rw (get_again maps n m (taken_from m k) there, is) (width, (entry.2.1, λ none. omega (arith, fewer, room)));
    }

-- fewer writes than a run may have
below_budget : (n : ℕ) → nat_le BUDGET n ≡ false → n < BUDGET
below_budget n more = omega (arith, leb-false)

-- what a write that was done leaves
wrote : (ws : List Write) (maps : List Mapping) (n : ℕ) (m after : Mapping) (k : List ℕ) → IsUndoable ws maps → slice_get maps n ≡ Some m → restored after k (value_in m k) ≡ m → IsNarrow after → CanTakeBack (write_of n m k) (slice_set maps n after) → length ws < BUDGET
    → IsUndoable (ws ++ write_of n m k ∷ []) (slice_set maps n after)
wrote ws maps n m after k undoable there back narrow can less =
    let w : Write = write_of n m k in
    record {
      back = can_push ws w (slice_set maps n after) (subst (CanTakeAllBack ws) (sym (one_back maps n m after k (value_in m k) there back)) undoable.back) can;
      narrow = all_set IsNarrow maps n after narrow undoable.narrow;
      budget = simp length-append (omega (arith, less));
    }

-- the maps as at the begin stay, and the journal has one more write
wrote_seen : (is_open : Bool) (ws : List Write) (maps : List Mapping) (n : ℕ) (m after : Mapping) (k : List ℕ) → is_open ≡ true → slice_get maps n ≡ Some m → restored after k (value_in m k) ≡ m
    → journal_view is_open (ws ++ write_of n m k ∷ []) (slice_set maps n after) ≡ written (journal_view is_open ws maps) (slice_set maps n after)
wrote_seen is_open ws maps n m after k opened there back =
    let w : Write = write_of n m k in
    let began : all_taken_back (ws ++ w ∷ []) (slice_set maps n after) ≡ all_taken_back ws maps =
    all_back_push ws w (slice_set maps n after) ∙ ap (all_taken_back ws) (one_back maps n m after k (value_in m k) there back) in
    let count : length (ws ++ w ∷ []) ≡ length ws + 1 = simp length-append in
    rw opened (ap (λ (b : List Mapping). record { maps = slice_set maps n after; began = Some b; writes = length (ws ++ w ∷ []) }) began
    ∙ ap (λ (c : ℕ). record { maps = slice_set maps n after; began = Some (all_taken_back ws maps); writes = c }) count)

narrow_put : (m : Mapping) (k v : List ℕ) → IsNarrow m → IsNarrow (put_in m k v)
narrow_put m k v n = record { key = n.key; value = n.value }

narrow_taken : (m : Mapping) (k : List ℕ) → IsNarrow m → IsNarrow (taken_from m k)
narrow_taken m k n = record { key = n.key; value = n.value }

put_done : (writes : ℕ) (m : Mapping) (k : List ℕ) → put_answer writes m k ≡ puts.Done → nat_le BUDGET writes ≡ false
put_done writes m k done = by (nat_le BUDGET writes) (is_full m k) done
  where
    by : (b f : Bool) → (if b then puts.Budget else if f then puts.Full else puts.Done) ≡ puts.Done → b ≡ false
    by true f e = absurd (cc e)
    by false f e = refl

remove_done : (writes : ℕ) (m : Mapping) (k : List ℕ) → remove_answer writes m k ≡ removes.Done → (nat_le BUDGET writes ≡ false) × IsSome (value_in m k)
remove_done writes m k done = by (nat_le BUDGET writes) (is_some (value_in m k)) refl done
  where
    by : (b f : Bool) → is_some (value_in m k) ≡ f → (if b then removes.Budget else if f then removes.Done else removes.Absent) ≡ removes.Done → (b ≡ false) × IsSome (value_in m k)
    by true f is e = absurd (cc e)
    by false true is e = (refl, is)
    by false false is e = absurd (cc e)

-- after a write, done or not, the writes can still be taken back
pub put_undoable : (ws js : List Write) (maps : List Mapping) (n : ℕ) (m t : Mapping) (k v : List ℕ) (answer : Put) → IsUndoable ws maps → slice_get maps n ≡ Some m → IsMapping m → length k ≡ m.shape.key → answer ≡ put_answer (length ws) m k
    → t ≡ when_done (was_put answer) (put_in m k v) m → js ≡ when_done (was_put answer) (ws ++ write_of n m k ∷ []) ws → IsUndoable js (slice_set maps n t)
put_undoable ws js maps n m t k v puts.Done undoable there kept width answer table journal =
    rw (table, journal) (wrote ws maps n m (put_in m k v) k undoable there (undo_put m k v (value_in m k) kept refl) (narrow_put m k v (all_at IsNarrow maps n m there undoable.narrow)) (can_put maps n m k v there kept width) (below_budget (length ws) (put_done (length ws) m k (sym answer))))
put_undoable ws js maps n m t k v puts.Full undoable there kept width answer table journal = rw (table, journal, set_same maps n m there) undoable
put_undoable ws js maps n m t k v puts.Budget undoable there kept width answer table journal = rw (table, journal, set_same maps n m there) undoable

-- what contracts see after a write
pub put_seen : (is_open : Bool) (ws js : List Write) (maps : List Mapping) (n : ℕ) (m t : Mapping) (k v : List ℕ) (answer : Put) → is_open ≡ true → slice_get maps n ≡ Some m → IsMapping m
    → t ≡ when_done (was_put answer) (put_in m k v) m → js ≡ when_done (was_put answer) (ws ++ write_of n m k ∷ []) ws → journal_view is_open js (slice_set maps n t) ≡ after_put (journal_view is_open ws maps) n m k v answer
put_seen is_open ws js maps n m t k v puts.Done opened there kept table journal = rw (table, journal) (wrote_seen is_open ws maps n m (put_in m k v) k opened there (undo_put m k v (value_in m k) kept refl))
put_seen is_open ws js maps n m t k v puts.Full opened there kept table journal = rw (table, journal, set_same maps n m there) refl
put_seen is_open ws js maps n m t k v puts.Budget opened there kept table journal = rw (table, journal, set_same maps n m there) refl

some_value : (o : Option (List ℕ)) → IsSome o → (w : List ℕ) × (o ≡ Some w)
some_value None some = absurd (cc some)
some_value (Some w) some = (w, refl)

undo_taken : (m : Mapping) (k : List ℕ) → IsMapping m → IsSome (value_in m k) → restored (taken_from m k) k (value_in m k) ≡ m
undo_taken m k kept some = let at = some_value (value_in m k) some in rw at.1 (undo_remove m k at.0 kept at.1)

-- the same after a removal
pub remove_undoable : (ws js : List Write) (maps : List Mapping) (n : ℕ) (m t : Mapping) (k : List ℕ) (answer : Remove) → IsUndoable ws maps → slice_get maps n ≡ Some m → IsMapping m → length k ≡ m.shape.key → answer ≡ remove_answer (length ws) m k
    → t ≡ when_done (was_removed answer) (taken_from m k) m → js ≡ when_done (was_removed answer) (ws ++ write_of n m k ∷ []) ws → IsUndoable js (slice_set maps n t)
remove_undoable ws js maps n m t k removes.Done undoable there kept width answer table journal =
    let done = remove_done (length ws) m k (sym answer) in
    let at = some_value (value_in m k) done.1 in
    rw (table, journal) (wrote ws maps n m (taken_from m k) k undoable there (undo_taken m k kept done.1) (narrow_taken m k (all_at IsNarrow maps n m there undoable.narrow)) (can_remove maps n m k at.0 there kept width at.1) (below_budget (length ws) done.0))
remove_undoable ws js maps n m t k removes.Absent undoable there kept width answer table journal = rw (table, journal, set_same maps n m there) undoable
remove_undoable ws js maps n m t k removes.Budget undoable there kept width answer table journal = rw (table, journal, set_same maps n m there) undoable

-- what contracts see after a removal
pub remove_seen : (is_open : Bool) (ws js : List Write) (maps : List Mapping) (n : ℕ) (m t : Mapping) (k : List ℕ) (answer : Remove) → is_open ≡ true → slice_get maps n ≡ Some m → IsMapping m → answer ≡ remove_answer (length ws) m k
    → t ≡ when_done (was_removed answer) (taken_from m k) m → js ≡ when_done (was_removed answer) (ws ++ write_of n m k ∷ []) ws → journal_view is_open js (slice_set maps n t) ≡ after_remove (journal_view is_open ws maps) n m k answer
remove_seen is_open ws js maps n m t k removes.Done opened there kept answer table journal = rw (table, journal) (wrote_seen is_open ws maps n m (taken_from m k) k opened there (undo_taken m k kept (remove_done (length ws) m k (sym answer)).1))
remove_seen is_open ws js maps n m t k removes.Absent opened there kept answer table journal = rw (table, journal, set_same maps n m there) refl
remove_seen is_open ws js maps n m t k removes.Budget opened there kept answer table journal = rw (table, journal, set_same maps n m there) refl

narrow_empty : (shapes : List MapShape) → AllByRecursion IsShape shapes → AllByRecursion IsNarrow (empty_maps shapes)
narrow_empty [] ranges = tt
narrow_empty (s ∷ shapes) ranges = (record { key = upper MAX_KEY s.key ranges.0.0; value = upper MAX_VALUE s.value ranges.0.1 }, narrow_empty shapes ranges.1)
  where
    upper : (most n : ℕ) → IsTrue (is_from_1_to most n) → n ≤ most
    upper most n is = grind (arith, nat_tests)

-- maps without entries
pub undoable_empty : (ws : List Write) (maps : List Mapping) (shapes : List MapShape) → AreWithinLimits shapes → ws ≡ [] → maps ≡ empty_maps shapes → IsUndoable ws maps
undoable_empty ws maps shapes limits none is = rw (none, is) (record { back = tt; narrow = narrow_empty shapes limits.ranges; budget = omega arith })

-- a run is open if contracts see the maps as at its begin
pub is_opened : (is_open : Bool) (maps : List Mapping) → IsSome (if is_open then Some maps else None) → is_open ≡ true
is_opened true maps some = refl
is_opened false maps some = absurd (cc some)

-- replacing a map by one of the same shape changes no shape
shapes_set : (maps : List Mapping) (n : ℕ) (m t : Mapping) → slice_get maps n ≡ Some m → t.shape ≡ m.shape → shapes_of (slice_set maps n t) ≡ shapes_of maps
shapes_set [] n m t there same = absurd (cc there)
shapes_set (x ∷ xs) zero m t there same =
    let is : x ≡ m = cc there in
    ap (λ (s : MapShape). s ∷ shapes_of xs) (same ∙ ap (λ (y : Mapping). y.shape) (sym is))
shapes_set (x ∷ xs) (suc n) m t there same = ap (λ (ss : List MapShape). x.shape ∷ ss) (shapes_set xs n m t there same)

shapes_back_one : (w : Write) (maps : List Mapping) → shapes_of (taken_back w maps) ≡ shapes_of maps
shapes_back_one w maps = by (mapping_at maps w.map) refl
  where
    of : (m : Mapping) (old : Option (List ℕ)) → (restored m w.key old).shape ≡ m.shape
    of m None = refl
    of m (Some v) = refl

    by : (o : Option Mapping) → mapping_at maps w.map ≡ o → shapes_of (elim o [ None ↦ maps | Some m ↦ slice_set maps w.map (restored m w.key w.old) ]) ≡ shapes_of maps
    by None is = refl
    by (Some m) is = shapes_set maps w.map m (restored m w.key w.old) is (of m w.old)

shapes_back : (ws : List Write) (maps : List Mapping) → shapes_of (all_taken_back ws maps) ≡ shapes_of maps
shapes_back [] maps = refl
shapes_back (w ∷ ws) maps = shapes_back_one w (all_taken_back ws maps) ∙ shapes_back ws maps

-- an undo changes no shape
pub undone_shapes : (ws : List Write) (maps after : List Mapping) → after ≡ all_taken_back ws maps → shapes_of after ≡ shapes_of maps
undone_shapes ws maps after is = ap shapes_of is ∙ shapes_back ws maps

-- a write changes no shape
pub put_shapes : (maps : List Mapping) (n : ℕ) (m t : Mapping) (k v : List ℕ) (answer : Put) → slice_get maps n ≡ Some m → t ≡ when_done (was_put answer) (put_in m k v) m → shapes_of (slice_set maps n t) ≡ shapes_of maps
put_shapes maps n m t k v puts.Done there table = shapes_set maps n m t there (ap (λ (x : Mapping). x.shape) table)
put_shapes maps n m t k v puts.Full there table = shapes_set maps n m t there (ap (λ (x : Mapping). x.shape) table)
put_shapes maps n m t k v puts.Budget there table = shapes_set maps n m t there (ap (λ (x : Mapping). x.shape) table)

-- a removal changes no shape
pub remove_shapes : (maps : List Mapping) (n : ℕ) (m t : Mapping) (k : List ℕ) (answer : Remove) → slice_get maps n ≡ Some m → t ≡ when_done (was_removed answer) (taken_from m k) m → shapes_of (slice_set maps n t) ≡ shapes_of maps
remove_shapes maps n m t k removes.Done there table = shapes_set maps n m t there (ap (λ (x : Mapping). x.shape) table)
remove_shapes maps n m t k removes.Absent there table = shapes_set maps n m t there (ap (λ (x : Mapping). x.shape) table)
remove_shapes maps n m t k removes.Budget there table = shapes_set maps n m t there (ap (λ (x : Mapping). x.shape) table)

-- the maps as at the begin stay after a write, whatever it returns
put_began : (j : Journalled) (n : ℕ) (m : Mapping) (k v : List ℕ) (answer : Put) → (after_put j n m k v answer).began ≡ j.began
put_began j n m k v puts.Done = refl
put_began j n m k v puts.Full = refl
put_began j n m k v puts.Budget = refl

remove_began : (j : Journalled) (n : ℕ) (m : Mapping) (k : List ℕ) (answer : Remove) → (after_remove j n m k answer).began ≡ j.began
remove_began j n m k removes.Done = refl
remove_began j n m k removes.Absent = refl
remove_began j n m k removes.Budget = refl

-- a write leaves the maps as at the begin
pub began_after_put : (j after : Journalled) (n : ℕ) (m : Mapping) (k v : List ℕ) (answer : Put) → after ≡ after_put j n m k v answer → after.began ≡ j.began
began_after_put j after n m k v answer is = ap (λ (x : Journalled). x.began) is ∙ put_began j n m k v answer

-- so does a removal
pub began_after_remove : (j after : Journalled) (n : ℕ) (m : Mapping) (k : List ℕ) (answer : Remove) → after ≡ after_remove j n m k answer → after.began ≡ j.began
began_after_remove j after n m k answer is = ap (λ (x : Journalled). x.began) is ∙ remove_began j n m k answer

-- Lemmas on fields one after another: what the octets after a field say of the whole.
use Rattle.std.proofs.Common.{◌≡◌, inl, inr, refl, sym, ap, ◌∙◌, ℕ, ◌+◌, ◌<◌, ◌≤◌, ◌&&◌, List, [], length, take, drop}
use Rattle.std.proofs.Common.{Option, Some, None, arith, option_map, nat_le}
use Rattle.std.proofs.lemmas.Bool.{cases_Bool, and_parts, leb-true}
use Rattle.std.proofs.lemmas.List.{length-drop}
use Rattle.std.specs.Prelude.{slice_index, ◌==◌, if◌then◌else◌}
use Rattle.xb_words.specs.Cut.{Pieces, after_item, cut, IsSize}
use Rattle.xb_words.specs.Optional.{or_else}
use Rattle.xb_words.proofs.CutLemmas.{cut-some, cut-none}
use Rattle.xb_wire.specs.declared.numbers.TheConstants.{UNSPECIFIC}
use Rattle.xb_wire.specs.Messages.{Notification}
use Rattle.bgp_open.specs.declared.TheConstants.{FIELD_HEADER}
use Rattle.bgp_open.specs.Opens.{field_size, front_field, field_value, fills, first_parameter_fault, open_error}
use Rattle.bgp_open.specs.Opens.{parameter_fault, parameters_fault, as_of, first_as, as_in, first_as_in, wide_as}

-- octets can be cut into fields: one is not empty and does not run past the end
pub IsSize-field_size : IsSize field_size
IsSize-field_size s n e =
    elim (cases_Bool (nat_le FIELD_HEADER (length s) && nat_le (FIELD_HEADER + slice_index s 1) (length s))) [
      | inl fits ↦
          let size : Some (FIELD_HEADER + slice_index s 1) ≡ Some n = rw fits at e in
          let n_is : FIELD_HEADER + slice_index s 1 ≡ n = cc size in
          let tests = and_parts (nat_le FIELD_HEADER (length s)) (nat_le (FIELD_HEADER + slice_index s 1) (length s)) fits in
          let here : FIELD_HEADER + slice_index s 1 ≤ length s = leb-true (FIELD_HEADER + slice_index s 1) (length s) tests.1 in
          (omega (arith, n_is), omega (arith, n_is, here))
      | inr short ↦ let none : None ≡ Some n = rw short at e in cc none
    ]

-- the field at the front is the first item, and the octets after it have the others
cut_with : (o : Option ℕ) (s front after : List ℕ) → field_size s ≡ o → option_map {U = List ℕ × List ℕ} (λ n. (take n s, drop n s)) o ≡ Some (front, after)
    → (cut field_size s ≡ after_item front (cut field_size after)) × (length after < length s)
cut_with None s front after e split = cc
cut_with (Some n) s front after e split =
    let parts : ◌≡◌ {A = List ℕ × List ℕ} (take n s, drop n s) (front, after) = cc in
    let front_is = ap (λ (p : List ℕ × List ℕ). p.0) parts in
    let after_is = ap (λ (p : List ℕ × List ℕ). p.1) parts in
    let h = IsSize-field_size s n e in
    let shorter : length (drop n s) < length s = omega (arith, h.0, h.1, length-drop n s) in
    (rw (cut-some field_size IsSize-field_size s n e, front_is, after_is) refl, rw after_is at shorter)

cut_field : (s front after : List ℕ) → Some (front, after) ≡ front_field s → (cut field_size s ≡ after_item front (cut field_size after)) × (length after < length s)
cut_field s front after e = cut_with (field_size s) s front after refl (sym e)

uncut_with : (o : Option ℕ) (s : List ℕ) → field_size s ≡ o → option_map {U = List ℕ × List ℕ} (λ n. (take n s, drop n s)) o ≡ None → cut field_size s ≡ record { items = []; rest = s }
uncut_with (Some n) s e none = cc
uncut_with None s e none = cut-none field_size IsSize-field_size s e

uncut : (s : List ℕ) → None ≡ front_field s → cut field_size s ≡ record { items = []; rest = s }
uncut s e = uncut_with (field_size s) s refl (sym e)

-- the octets after a field are fewer
pub length-after_field : (s front after : List ℕ) → Some (front, after) ≡ front_field s → length after < length s
length-after_field s front after e = (cut_field s front after e).1

-- whether fields fill octets, by the field at the front
pub fills-field : (s front after : List ℕ) → Some (front, after) ≡ front_field s → fills s ≡ fills after
unfolding fills
fills-field s front after e = ap (λ (p : Pieces). length p.rest == 0) (cut_field s front after e).0

-- and when no field is there
pub fills-end : (s : List ℕ) → None ≡ front_field s → fills s ≡ (length s == 0)
unfolding fills
fills-end s e = ap (λ (p : Pieces). length p.rest == 0) (uncut s e)

-- the fault of parameters that are cut
abbrev fault_of : Pieces → Option Notification
fault_of p = or_else (first_parameter_fault p.items) (if length p.rest == 0 then None else Some (open_error UNSPECIFIC []))

by_pieces : (s : List ℕ) → parameters_fault s ≡ fault_of (cut field_size s)
unfolding parameters_fault fills
by_pieces s = refl

at_front : (s front after : List ℕ) → Some (front, after) ≡ front_field s → parameters_fault s ≡ or_else (or_else (parameter_fault front) (first_parameter_fault (cut field_size after).items)) (if length (cut field_size after).rest == 0 then None else Some (open_error UNSPECIFIC []))
at_front s front after e = by_pieces s ∙ ap fault_of (cut_field s front after e).0

-- the first fault of parameters, by the parameter at the front
pub parameters_fault-good : (s front after : List ℕ) → Some (front, after) ≡ front_field s → parameter_fault front ≡ None → parameters_fault s ≡ parameters_fault after
parameters_fault-good s front after e good =
    let rest = cut field_size after in
    at_front s front after e
    ∙ ap (λ o. or_else (or_else o (first_parameter_fault rest.items)) (if length rest.rest == 0 then None else Some (open_error UNSPECIFIC []))) good
    ∙ sym (by_pieces after)

pub parameters_fault-bad : (s front after : List ℕ) (f : Notification) → Some (front, after) ≡ front_field s → parameter_fault front ≡ Some f → parameters_fault s ≡ Some f
parameters_fault-bad s front after f e bad =
    let rest = cut field_size after in
    at_front s front after e
    ∙ ap (λ o. or_else (or_else o (first_parameter_fault rest.items)) (if length rest.rest == 0 then None else Some (open_error UNSPECIFIC []))) bad

-- and when no parameter is there
pub parameters_fault-end : (s : List ℕ) → None ≡ front_field s → parameters_fault s ≡ (if length s == 0 then None else Some (open_error UNSPECIFIC []))
parameters_fault-end s e = by_pieces s ∙ ap fault_of (uncut s e)

-- the first AS number among capabilities, by the capability at the front
as_in-field : (s front after : List ℕ) → Some (front, after) ≡ front_field s → as_in s ≡ or_else (as_of front) (as_in after)
unfolding as_in
as_in-field s front after e = ap (λ (p : Pieces). first_as p.items) (cut_field s front after e).0

pub as_in-other : (s front after : List ℕ) → Some (front, after) ≡ front_field s → as_of front ≡ None → as_in s ≡ as_in after
as_in-other s front after e none = as_in-field s front after e ∙ ap (λ o. or_else o (as_in after)) none

pub as_in-here : (s front after : List ℕ) (n : ℕ) → Some (front, after) ≡ front_field s → as_of front ≡ Some n → as_in s ≡ Some n
as_in-here s front after n e here = as_in-field s front after e ∙ ap (λ o. or_else o (as_in after)) here

-- and when no capability is there
pub as_in-end : (s : List ℕ) → None ≡ front_field s → as_in s ≡ None
unfolding as_in
as_in-end s e = ap (λ (p : Pieces). first_as p.items) (uncut s e)

-- the first AS number in parameters, by the parameter at the front
wide_as-field : (s front after : List ℕ) → Some (front, after) ≡ front_field s → wide_as s ≡ or_else (as_in (field_value front)) (wide_as after)
unfolding wide_as
wide_as-field s front after e = ap (λ (p : Pieces). first_as_in p.items) (cut_field s front after e).0

pub wide_as-other : (s front after : List ℕ) → Some (front, after) ≡ front_field s → as_in (field_value front) ≡ None → wide_as s ≡ wide_as after
wide_as-other s front after e none = wide_as-field s front after e ∙ ap (λ o. or_else o (wide_as after)) none

pub wide_as-here : (s front after : List ℕ) (n : ℕ) → Some (front, after) ≡ front_field s → as_in (field_value front) ≡ Some n → wide_as s ≡ Some n
wide_as-here s front after n e here = wide_as-field s front after e ∙ ap (λ o. or_else o (wide_as after)) here

-- and when no parameter is there
pub wide_as-end : (s : List ℕ) → None ≡ front_field s → wide_as s ≡ None
unfolding wide_as
wide_as-end s e = ap (λ (p : Pieces). first_as_in p.items) (uncut s e)

-- one step of a loop that judges fields
pub ruleset walks = (length-after_field, fills-field, fills-end, parameters_fault-good, parameters_fault-bad, parameters_fault-end)

-- one step of a loop that looks for an AS number
pub ruleset searches = (length-after_field, as_in-other, as_in-here, as_in-end, wide_as-other, wide_as-here, wide_as-end)

-- Lemmas on the grammar of a section.
use Rattle.std.proofs.Common.{◌≤◌, Bool, true, false, cond, length, arith}
use Rattle.std.proofs.lemmas.Bool.{leb-true}
use Rattle.std.proofs.lemmas.Option.{cond_some}
use Rattle.std.specs.Prelude.{nat_le, slice_index}
use Rattle.xb_words.specs.Cut.{IsSize}
use Rattle.bgp_attr.specs.Attributes.{attribute_size, has_long_length, header_size, whole_size}

three_le-cond : (b : Bool) → 3 ≤ cond b 4 3
three_le-cond true = omega arith
three_le-cond false = omega arith

-- a section can be cut into attributes: one is not empty and does not run past the end
pub IsSize-attribute_size : IsSize attribute_size
IsSize-attribute_size s n e =
    let p = cond_some (nat_le (whole_size s) (length s)) (whole_size s) n e in
    let header : 3 ≤ header_size (slice_index s 0) = three_le-cond (has_long_length (slice_index s 0)) in
    let fits : whole_size s ≤ length s = leb-true (whole_size s) (length s) p.0 in
    (omega (arith, header, p.1), omega (arith, fits, p.1))

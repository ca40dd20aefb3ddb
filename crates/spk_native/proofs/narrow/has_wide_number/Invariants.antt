use Rattle.std.proofs.Common.{◌≡◌, ◌*◌, length}
use Rattle.std.specs.Prelude.{not}
use Rattle.std.specs.List.{list_any}
use Rattle.bgp_attr.specs.Paths.{numbers_of}
use Rattle.bgp_path.specs.Widths.{is_narrow}
use Rattle.spk_native.proofs.narrow.has_wide_number.Given as goal

abbrev pub invariant-numbers : goal.invariant-numbers
invariant-numbers l = record {
  left : length l.rest ≡ 4 * l.left;
  same : list_any (λ n. not (is_narrow n)) (numbers_of 4 l.left l.rest)
      ≡ list_any (λ n. not (is_narrow n)) (numbers_of 4 l.count l.octets);
}

abbrev pub decreases-numbers : goal.decreases-numbers
decreases-numbers l = l.left

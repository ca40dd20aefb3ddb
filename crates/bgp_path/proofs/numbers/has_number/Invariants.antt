use Rattle.std.proofs.Common.{◌≡◌, ◌*◌, length}
use Rattle.std.specs.Prelude.{◌==◌}
use Rattle.std.specs.List.{list_any}
use Rattle.bgp_attr.specs.Paths.{numbers_of}
use Rattle.bgp_attr.specs.Paths.{width_of}
use Rattle.bgp_path.proofs.numbers.has_number.Given as goal

abbrev pub invariant-numbers : goal.invariant-numbers
invariant-numbers l = record {
  left : length l.rest ≡ width_of l.wide * l.left;
  same : list_any (λ n. n == l.asn) (numbers_of (width_of l.wide) l.left l.rest) ≡ list_any (λ n. n == l.asn) (numbers_of (width_of l.wide) l.count l.octets);
}

abbrev pub decreases-numbers : goal.decreases-numbers
decreases-numbers l = l.left

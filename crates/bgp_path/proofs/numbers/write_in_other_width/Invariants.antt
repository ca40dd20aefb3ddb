use Rattle.std.proofs.Common.{◌≡◌, ◌*◌, length, flat_map}
use Rattle.bgp_attr.specs.Paths.{numbers_of, width_of}
use Rattle.bgp_path.specs.Units.{other_octets}
use Rattle.bgp_path.proofs.WritingLemmas.{IsWriting}
use Rattle.bgp_path.proofs.numbers.write_in_other_width.Given as goal

abbrev pub invariant-numbers : goal.invariant-numbers
invariant-numbers l =
    let w = width_of l.wide in
    record {
      left : length l.rest ≡ w * l.left;
      writing : IsWriting l.at (flat_map (other_octets l.wide) (numbers_of w l.count l.octets)) l.fn.out l.out l.to (flat_map (other_octets l.wide) (numbers_of w l.left l.rest));
    }

abbrev pub decreases-numbers : goal.decreases-numbers
decreases-numbers l = l.left

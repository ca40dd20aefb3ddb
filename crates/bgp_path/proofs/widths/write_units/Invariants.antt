use Rattle.std.proofs.Common.{◌≡◌, length}
use Rattle.bgp_path.specs.Units.{other_path, units_octets}
use Rattle.bgp_path.proofs.WritingLemmas.{IsWriting}
use Rattle.bgp_path.proofs.widths.write_units.Given as goal

abbrev pub invariant-segments : goal.invariant-segments
invariant-segments l = record {
  wide : l.walk.wide ≡ l.wide;
  writing : IsWriting 0 (units_octets l.wide l.units l.path) l.fn.out l.out l.at (other_path l.wide l.walk.coming);
}

abbrev pub decreases-segments : goal.decreases-segments
decreases-segments l = length l.walk.coming

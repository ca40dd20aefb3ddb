use Rattle.std.proofs.Common.{◌≡◌, ◌+◌, length}
use Rattle.bgp_path.specs.Units.{other_path, units_octets}
use Rattle.bgp_path.proofs.widths.units_len.Given as goal

abbrev pub invariant-segments : goal.invariant-segments
invariant-segments l = record {
  wide : l.walk.wide ≡ l.wide;
  sum : l.len + length (other_path l.wide l.walk.coming) ≡ length (units_octets l.wide l.units l.path);
}

abbrev pub decreases-segments : goal.decreases-segments
decreases-segments l = length l.walk.coming

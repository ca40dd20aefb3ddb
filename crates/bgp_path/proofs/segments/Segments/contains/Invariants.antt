use Rattle.std.proofs.Common.{◌≡◌, true, length}
use Rattle.bgp_attr.specs.Paths.{path, path_ok, contains}
use Rattle.bgp_attr.specs.Paths.{width_of}
use Rattle.bgp_path.proofs.segments.Segments.contains.Given as goal

abbrev pub invariant-segments : goal.invariant-segments
invariant-segments l =
    let w = width_of l.self-inside.wide in
    record {
      ok : path_ok w l.rest ≡ true;
      same : contains l.asn (path w l.rest) ≡ contains l.asn (path w l.self-inside.value.now);
    }

abbrev pub decreases-segments : goal.decreases-segments
decreases-segments l = length l.rest

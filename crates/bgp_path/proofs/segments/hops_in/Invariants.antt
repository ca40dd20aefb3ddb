use Rattle.std.proofs.Common.{◌≡◌, ◌+◌, ◌≤◌, true, length}
use Rattle.bgp_attr.specs.Paths.{path, path_ok, hops}
use Rattle.bgp_attr.specs.Paths.{width_of}
use Rattle.bgp_path.proofs.segments.hops_in.Given as goal

abbrev pub invariant-segments : goal.invariant-segments
invariant-segments l =
    let w = width_of l.wide in
    record {
      ok : path_ok w l.rest ≡ true;
      fits : l.hops + length l.rest ≤ length l.path;
      counted : l.hops + hops (path w l.rest) ≡ hops (path w l.path);
    }

abbrev pub decreases-segments : goal.decreases-segments
decreases-segments l = length l.rest

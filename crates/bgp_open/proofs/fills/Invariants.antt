use Rattle.std.proofs.Common.{◌≡◌, length}
use Rattle.bgp_open.specs.Opens.{fills}
use Rattle.bgp_open.proofs.fills.Given as goal

abbrev pub invariant-fields : goal.invariant-fields
invariant-fields l = fills l.rest ≡ fills l.octets

abbrev pub decreases-fields : goal.decreases-fields
decreases-fields l = length l.rest

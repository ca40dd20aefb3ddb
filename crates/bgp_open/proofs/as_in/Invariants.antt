use Rattle.std.proofs.Common.{◌≡◌, length}
use Rattle.bgp_open.specs.Opens.{as_in}
use Rattle.bgp_open.proofs.as_in.Given as goal

abbrev pub invariant-capabilities : goal.invariant-capabilities
invariant-capabilities l = as_in l.rest ≡ as_in l.octets

abbrev pub decreases-capabilities : goal.decreases-capabilities
decreases-capabilities l = length l.rest

use Rattle.std.proofs.Common.{◌≡◌, length}
use Rattle.bgp_open.specs.Opens.{wide_as}
use Rattle.bgp_open.proofs.wide_as.Given as goal

abbrev pub invariant-parameters : goal.invariant-parameters
invariant-parameters l = wide_as l.rest ≡ wide_as l.octets

abbrev pub decreases-parameters : goal.decreases-parameters
decreases-parameters l = length l.rest

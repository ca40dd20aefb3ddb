use Rattle.std.proofs.Common.{◌≡◌, length}
use Rattle.bgp_open.specs.Opens.{parameters_fault}
use Rattle.bgp_open.proofs.fault_of_parameters.Given as goal

abbrev pub invariant-parameters : goal.invariant-parameters
invariant-parameters l = parameters_fault l.rest ≡ parameters_fault l.octets

abbrev pub decreases-parameters : goal.decreases-parameters
decreases-parameters l = length l.rest

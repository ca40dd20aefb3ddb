use Rattle.bpf_machine.proofs.FuelLemmas.{bpf-spent, bpf-ended, bpf-more_fuel}
use Rattle.bpf_machine.proofs.laws.fuel_decides.Goals as goal

pub returns-clause-spent : goal.returns-clause-spent
returns-clause-spent g c = λ code memory fuel w m v e. bpf-spent g.H.Helpers.helps code memory fuel w m v e

pub returns-clause-ended : goal.returns-clause-ended
returns-clause-ended g c = λ code memory fuel w e. bpf-ended g.H.Helpers.helps code memory fuel w e

pub returns-clause-more : goal.returns-clause-more
returns-clause-more g c = λ code memory fuel more w e. bpf-more_fuel g.H.Helpers.helps code memory fuel more w e

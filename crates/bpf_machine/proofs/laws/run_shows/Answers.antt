use Rattle.bpf_machine.proofs.WorldLemmas.{bpf-shown}
use Rattle.bpf_machine.proofs.laws.run_shows.Goals as goal

pub returns : goal.returns
returns g c = λ show code memory fuel w shows. bpf-shown show g.H.Helpers.helps g.O.Helpers.helps code shows memory fuel w

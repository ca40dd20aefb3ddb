use Rattle.bpf_machine.proofs.WorldLemmas.{world-kept}
use Rattle.bpf_machine.proofs.laws.run_keeps.Goals as goal

pub returns : goal.returns
returns g c = λ part code memory fuel w keeps. world-kept part g.H.Helpers.helps code keeps memory fuel w

use Rattle.bpf_insn.proofs.HelperLemmas.{get_or-replicate}
use Rattle.bpf_insn.proofs.helpers.HelperSet.none.Goals as goal

pub returns : goal.returns
returns c = λ n. get_or-replicate 32 n

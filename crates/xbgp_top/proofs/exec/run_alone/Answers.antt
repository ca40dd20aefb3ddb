use Rattle.bpf_insn.proofs.LoadLemmas.{CallsOnly-load_fault}
use Rattle.xbgp_top.specs.Answers.{no_helper}
use Rattle.xbgp_top.proofs.exec.run_alone.Goals as goal

pub run-requires : goal.run-requires
run-requires c = CallsOnly-load_fault no_helper c.args.code.now c.requires

use Rattle.xbgp_helpers.proofs.ChangesLemmas.{help-changed, bpf-changed}
use Rattle.xbgp_helpers.proofs.laws.parts_are_kept.Goals as goal

pub returns : goal.returns
returns c = record {
  call = λ point number args memory w. help-changed point number args memory w;
  run = λ point code memory fuel w. bpf-changed point code memory fuel w;
}

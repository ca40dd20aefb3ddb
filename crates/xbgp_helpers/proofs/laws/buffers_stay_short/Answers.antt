use Rattle.xbgp_helpers.proofs.RunsLemmas.{help-short, bpf-short}
use Rattle.xbgp_helpers.proofs.laws.buffers_stay_short.Goals as goal

pub returns : goal.returns
returns c = record {
  call = λ point number args memory w short. help-short point number args memory w short;
  run = λ point code memory fuel w short. bpf-short point code memory fuel w short;
}

use Rattle.xbgp_helpers.proofs.ShowsLemmas.{shown_run}
use Rattle.xbgp_helpers.proofs.laws.runs_are_shown.Goals as goal

pub returns : goal.returns
returns c = λ point code memory fuel shown. shown_run point code memory fuel shown

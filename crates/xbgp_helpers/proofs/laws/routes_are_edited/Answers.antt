use Rattle.xbgp_helpers.proofs.ChangesLemmas.{help-edited}
use Rattle.xbgp_helpers.proofs.laws.routes_are_edited.Goals as goal

pub returns : goal.returns
returns c = λ point number args memory w. help-edited point number args memory w

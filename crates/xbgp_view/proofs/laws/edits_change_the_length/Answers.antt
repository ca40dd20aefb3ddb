use Rattle.bgp_attr.specs.Routes.{kept_flags}
use Rattle.xbgp_view.proofs.LengthsLemmas.{length-canon-with_value}
use Rattle.xbgp_view.proofs.laws.edits_change_the_length.Goals as goal

pub returns : goal.returns
returns c = λ route code flags value is. length-canon-with_value route code (record { flags = kept_flags flags; value = value }) is.rising

-- An attribute of the code is still to come, if there is one.
use Rattle.std.proofs.Common.{◌≡◌, length}
use Rattle.bgp_attr.specs.Attributes.{codes_of}
use Rattle.bgp_check.specs.Judgement.{has_code}
use Rattle.xbgp_points.proofs.SectionLemmas.{to_come}
use Rattle.xbgp_points.proofs.section.has_code.Given as goal

abbrev pub invariant-attributes : goal.invariant-attributes
invariant-attributes l = to_come l.code l.attrs ≡ has_code (codes_of l.section) l.code

abbrev pub decreases-attributes : goal.decreases-attributes
decreases-attributes l = length l.attrs

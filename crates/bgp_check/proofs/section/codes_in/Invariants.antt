use Rattle.std.proofs.Common.{length}
use Rattle.bgp_attr.specs.Walks.{attributes_from}
use Rattle.bgp_check.proofs.JudgementLemmas.{GathersCodes}
use Rattle.bgp_check.proofs.section.codes_in.Given as goal

abbrev pub invariant-attributes : goal.invariant-attributes
invariant-attributes l = GathersCodes l.codes.words l.attrs (attributes_from 0 l.section)

abbrev pub decreases-attributes : goal.decreases-attributes
decreases-attributes l = length l.attrs

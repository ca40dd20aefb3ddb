use Rattle.std.proofs.Common.{◌≡◌, length, map}
use Rattle.bgp_attr.specs.Attributes.{attributes}
use Rattle.bgp_attr.specs.Paths.{width_of}
use Rattle.bgp_check.specs.Judgement.{attribute_check, first_check}
use Rattle.bgp_check.proofs.JudgementLemmas.{first_found}
use Rattle.bgp_check.proofs.section.first_fault.Given as goal

-- the attributes that are left have the fault
abbrev pub invariant-attributes : goal.invariant-attributes
invariant-attributes l =
    let w = width_of l.wide in
    first_found w l.attrs ≡ first_check (map (attribute_check w) (attributes l.section))

abbrev pub decreases-attributes : goal.decreases-attributes
decreases-attributes l = length l.attrs

use Rattle.std.proofs.Common.{rules, ◌≡◌, ◌<◌, [], ◌∷◌, true, Ok, Err}
use Rattle.bgp_attr.specs.Views.{attr_step_view}
use Rattle.bgp_check.specs.Codes.{has_bit}
use Rattle.bgp_check.proofs.JudgementLemmas.{gathered_overrun, gathered_twice, gathered_all}
use Rattle.bgp_check.proofs.section.codes_in.Goals as goal

pub returns-in_default-step-clause-malformed : goal.returns-in_default-step-clause-malformed
returns-in_default-step-clause-malformed c =
    let walk : c.attributes.attrs ≡ Err c.in_default-step.field-0 ∷ c.next.new.self = search rules in
    gathered_overrun c.args.section.now c.attributes.codes.words c.in_default-step.field-0 c.next.new.self (rw walk at c.attributes.invariant)

pub returns-then-contains-clause-malformed : goal.returns-then-contains-clause-malformed
returns-then-contains-clause-malformed c =
    let a = c.in-Ok.attr in
    let walk : c.attributes.attrs ≡ attr_step_view (Ok a) ∷ c.next.new.self = search rules in
    let small : a.code < 256 = search rules in
    let held : has_bit c.attributes.codes.words a.code ≡ true = search rules in
    gathered_twice c.args.section.now c.attributes.codes.words (record { at = a.at; flags = a.flags; code = a.code; value = a.value.now; raw = a.raw.now }) c.next.new.self (rw walk at c.attributes.invariant) small held

pub returns-clause-malformed : goal.returns-clause-malformed
returns-clause-malformed c =
    let walk : c.attributes.attrs ≡ [] = search rules in
    (gathered_all c.args.section.now c.attributes.codes.words (rw walk at c.attributes.invariant)).0

pub returns-clause-codes : goal.returns-clause-codes
returns-clause-codes c =
    let walk : c.attributes.attrs ≡ [] = search rules in
    (gathered_all c.args.section.now c.attributes.codes.words (rw walk at c.attributes.invariant)).1

use Rattle.std.proofs.Common.{◌≡◌, ◌∙◌, ap, sym, ℕ, List, length, Some, not}
use Rattle.std.specs.Prelude.{◌==◌}
use Rattle.xb_wire.specs.Views.{notice_view}
use Rattle.bgp_attr.specs.Paths.{width_of}
use Rattle.bgp_check.specs.Judgement.{judge_section}
use Rattle.bgp_check.proofs.JudgementLemmas.{data_le-judge_section}
use Rattle.bgp_check.proofs.update.judged.Goals as goal

pub returns-in-Some-judged_section-clause-data : goal.returns-in-Some-judged_section-clause-data
returns-in-Some-judged_section-clause-data c =
    let u = c.in-Some.update in
    let notice = notice_view c.in-Some-judged_section.notice in
    let blank : c.is_empty.result ≡ (length u.nlri == 0) = c.is_empty.ensures ∙ ap (λ (t : List ℕ). length t == 0) c.nlri.ensures in
    let fault : judge_section (width_of c.args.wide) u.section (not (length u.nlri == 0)) ≡ Some notice =
    ap (λ (s : List ℕ). judge_section (width_of c.args.wide) s (not (length u.nlri == 0))) (sym c.section.ensures)
    ∙ ap (λ b. judge_section (width_of c.args.wide) c.section.result.now (not b)) (sym blank)
    ∙ sym c.in-Some-judged_section.ensures.fault in
    data_le-judge_section (width_of c.args.wide) c.args.body.now u notice (sym c.in-Some.ensures.parts) fault

use Rattle.std.proofs.Common.{◌≡◌, ◌∙◌, sym, ap, subst, true, List, ℕ}
use Rattle.host_interned.proofs.FollowingLemmas.{goes_weaker}
use Rattle.std.specs.Prelude.{◌++◌}
use Rattle.xb_words.specs.Table.{set_of}
use Rattle.xb_values.specs.Prefixes.{are_prefixes, prefix_cmp, prefixes}
use Rattle.bgp_attr.specs.Paths.{width_of}
use Rattle.spk_model.specs.Sources.{is_wide}
use Rattle.spk_native.proofs.SoundLemmas.{judge_section-judge}
use Rattle.host_interned.proofs.JudgeLemmas.{AreParts-judge, judge-none}
use Rattle.host_interned.proofs.UpdateLemmas.{then_settled}
use Rattle.host_interned.proofs.routing.Core.update.Goals as goal

pub returns-in_default : goal.returns-in_default
returns-in_default c =
    absurd (judge-none (width_of (is_wide c.args.sessions.now c.args.peer)) c.args.body.now c.requires.good
    c.in_default.ensures.parts)

pub named_in-requires-clause-withdrawn : goal.named_in-requires-clause-withdrawn
named_in-requires-clause-withdrawn c =
    let p = AreParts-judge (width_of (is_wide c.args.sessions.now c.args.peer)) c.args.body.now c.in-Some.parts
    c.requires.good c.in-Some.ensures.parts in
    subst (λ (s : List ℕ). are_prefixes s ≡ true) (sym c.withdrawn.ensures) p.withdrawn

pub named_in-requires-clause-nlri : goal.named_in-requires-clause-nlri
named_in-requires-clause-nlri c =
    let p = AreParts-judge (width_of (is_wide c.args.sessions.now c.args.peer)) c.args.body.now c.in-Some.parts
    c.requires.good c.in-Some.ensures.parts in
    subst (λ (s : List ℕ). are_prefixes s ≡ true) (sym c.nlri.ensures) p.nlri

pub take_routes-requires-clause-good : goal.take_routes-requires-clause-good
take_routes-requires-clause-good c =
    judge_section-judge (width_of (is_wide c.args.sessions.now c.args.peer)) c.args.body.now c.in-Some.parts
    c.requires.good (sym c.in-Some.ensures.parts)

pub take_routes-requires-clause-whole : goal.take_routes-requires-clause-whole
take_routes-requires-clause-whole c =
    (AreParts-judge (width_of (is_wide c.args.sessions.now c.args.peer)) c.args.body.now c.in-Some.parts
    c.requires.good c.in-Some.ensures.parts).withdrawn

pub take_routes-requires-clause-announced : goal.take_routes-requires-clause-announced
take_routes-requires-clause-announced c =
    (AreParts-judge (width_of (is_wide c.args.sessions.now c.args.peer)) c.args.body.now c.in-Some.parts
    c.requires.good c.in-Some.ensures.parts).nlri

pub returns : goal.returns
returns c =
    let a = c.args in
    let p = AreParts-judge (width_of (is_wide a.sessions.now a.peer)) a.body.now c.in-Some.parts c.requires.good
    c.in-Some.ensures.parts in
    goes_weaker c.settle_set.result _ _ a.self.now c.take_routes.new.self c.settle_set.new.self
    (λ d. then_settled a.self.now c.take_routes.new.self c.settle_set.new.self a.sessions.now a.now a.peer a.body.now
    c.in-Some.parts c.in_ok-named.named p.parts
    (c.in_ok-named.ensures
    ∙ ap (λ (s : List ℕ). set_of prefix_cmp (prefixes s ++ prefixes c.nlri.result.now)) c.withdrawn.ensures
    ∙ ap (λ (s : List ℕ). set_of prefix_cmp (prefixes c.in-Some.parts.withdrawn ++ prefixes s)) c.nlri.ensures)
    c.in_ok-take_routes.ensures d)
    c.settle_set.ensures

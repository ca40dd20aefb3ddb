use Rattle.std.proofs.Common.{◌≡◌, ◌≤◌, ◌∙◌, sym, ap, subst, ℕ, Bool, true, List, None}
use Rattle.xb_values.specs.Prefixes.{prefixes}
use Rattle.bgp_attr.specs.Paths.{width_of}
use Rattle.bgp_check.specs.Judgement.{judge_section}
use Rattle.spk_model.specs.Sources.{is_wide}
use Rattle.spk_model.specs.Routing.{announce}
use Rattle.host_interned.specs.Meaning.{Does}
use Rattle.host_interned.proofs.FollowingLemmas.{does_peers, goes_match}
use Rattle.host_interned.proofs.UpdateLemmas.{some_routes, none_routes, are_there}
use Rattle.host_interned.proofs.routing.Core.take_routes.Goals as goal

pub returns-in_default : goal.returns-in_default
returns-in_default c =
    let a = c.args in
    goes_match c.withdraw.result _ a.self.now c.withdraw.new.self
    (λ d. none_routes a.self.now c.withdraw.new.self a.sessions.now a.now a.peer a.body.now a.parts.now
    (prefixes a.parts.now.nlri)
    (ap prefixes (sym c.nlri.ensures) ∙ sym c.new-announced.ensures ∙ c.in_default.ensures.end.0)
    (d a.parts.now (sym c.withdrawn.ensures) (sym c.nlri-in_default.ensures)))
    c.withdraw.ensures

pub announce-requires-clause-good : goal.announce-requires-clause-good
announce-requires-clause-good c =
    let a = c.args in
    let w : ℕ = width_of (is_wide a.sessions.now a.peer) in
    subst (λ (s : List ℕ). judge_section w s true ≡ None) (sym c.section.ensures)
    (subst (λ (b : Bool). judge_section w a.parts.now.section b ≡ None)
    (are_there a.parts.now.nlri _ c.next.new.self
    (ap prefixes (sym c.nlri.ensures) ∙ sym c.new-announced.ensures ∙ c.in-Some.ensures.first))
    c.requires.good)

pub withdraw-requires-2-clause-ready : goal.withdraw-requires-2-clause-ready
withdraw-requires-2-clause-ready c = (c.in_ok-announce.ensures c.args.parts.now (sym c.section.ensures)).ready

pub withdraw-requires-2-clause-most : goal.withdraw-requires-2-clause-most
withdraw-requires-2-clause-most c =
    subst (λ (n : ℕ). c.args.peer ≤ n)
    (sym (does_peers _ c.args.self.now c.announce.new.self
    (c.in_ok-announce.ensures c.args.parts.now (sym c.section.ensures))))
    c.requires.most

pub returns : goal.returns
returns c =
    let a = c.args in
    goes_match c.withdraw-2.result _ a.self.now c.withdraw-2.new.self
    (λ d. some_routes a.self.now c.announce.new.self c.withdraw-2.new.self a.sessions.now a.now a.peer a.body.now
    a.parts.now _ c.next.new.self (prefixes a.parts.now.nlri)
    (ap prefixes (sym c.nlri.ensures) ∙ sym c.new-announced.ensures ∙ c.in-Some.ensures.first)
    (subst (λ (s : List ℕ). Does (λ setup t. announce setup a.sessions.now a.now t a.peer a.body.now a.parts.now
    (prefixes s)) a.self.now c.announce.new.self) c.nlri-2.ensures
    (c.in_ok-announce.ensures a.parts.now (sym c.section.ensures)))
    (d a.parts.now (sym c.withdrawn-2.ensures) (sym c.nlri-3.ensures)))
    c.withdraw-2.ensures

use Rattle.std.proofs.Common.{◌≡◌, ◌++◌, ◌∙◌, rules, List, ℕ, sym, ap, subst}
use Rattle.xb_domain.specs.Events.{Event}
use Rattle.xb_domain.specs.Outputs.{Output}
use Rattle.xb_domain.specs.Views.{event_view}
use Rattle.spk_model.specs.declared.host.Setup.{Setup}
use Rattle.spk_model.specs.Readers.{AreConfigured}
use Rattle.spk_model.specs.Turning.{Happened, event, history}
use Rattle.xbgp_top.specs.Summaries.{counted_all, work_setup}
use Rattle.xbgp_top.proofs.WorkLemmas.{counted_all-append, first_then, history-none, history_then}
use Rattle.xbgp_top.proofs.work.play_all.Goals as goal

pub step-requires : goal.step-requires
step-requires g c =
    let s = g.H.Host.speaker c.events.host in
    subst (λ (x : Setup). AreConfigured x s (event_view c.in-Some.event)) (sym c.events.invariant.built)
    (c.in-Some.ensures.peers s.clock)

pub events-preserved : goal.events-preserved
events-preserved g c =
    let rule = g.H.Host.RULE in
    let built = g.H.Host.built_from c.events.host in
    let s = g.H.Host.speaker c.events.host in
    let next = g.H.Host.speaker c.in_ok-host.host in
    let rest = c.next_into.new.work in
    let e : Event = event_view c.in-Some.event in
    let i = c.events.invariant in
    let others : Happened = history rule work_setup next rest in
    let first : Happened = event rule built s e in
    let then : history rule work_setup s c.events.work ≡ first_then first others =
    history_then rule built work_setup s next c.events.work rest e i.built c.in-Some.ensures.event
    c.next_into.ensures.rest c.in_ok-host.ensures.speaker in
    let outputs = c.in_ok-host.ensures.outputs ∙ ap (λ (l : List Output). l ++ first.outputs) c.clear.ensures in
    record {
      built = c.in_ok-host.ensures.setup ∙ i.built;
      room = search rules;
      speaker = sym (ap (λ (h : Happened). h.speaker) then) ∙ i.speaker;
      counts = ap (λ (k : List ℕ). counted_all k others.outputs)
          (c.count_outputs.ensures ∙ ap (counted_all c.events.counts) outputs)
          ∙ sym (counted_all-append c.events.counts first.outputs others.outputs)
          ∙ sym (ap (λ (h : Happened). counted_all c.events.counts h.outputs) then) ∙ i.counts;
    }

pub returns-clause-speaker : goal.returns-clause-speaker
returns-clause-speaker g c =
    let s = g.H.Host.speaker c.events.host in
    sym (ap (λ (h : Happened). h.speaker)
    (history-none g.H.Host.RULE work_setup s c.events.work c.in_default.ensures.event))
    ∙ c.events.invariant.speaker

pub returns-clause-counts : goal.returns-clause-counts
returns-clause-counts g c =
    let s = g.H.Host.speaker c.events.host in
    sym (ap (λ (h : Happened). counted_all c.events.counts h.outputs)
    (history-none g.H.Host.RULE work_setup s c.events.work c.in_default.ensures.event))
    ∙ c.events.invariant.counts

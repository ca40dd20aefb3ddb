use Rattle.std.proofs.Common.{◌∙◌, ap, List, ◌++◌}
use Rattle.xb_domain.specs.Outputs.{Output}
use Rattle.xb_domain.specs.Views.{event_view}
use Rattle.spk_session.specs.declared.links.Links.{Links}
use Rattle.spk_session.specs.Hosting.{IsSound}
use Rattle.spk_session.specs.Meaning.{core_of}
use Rattle.spk_session.proofs.HostLemmas.{sound_after, shown_after, speaker_stepped, outputs_stepped, count_after}
use Rattle.spk_session.proofs.HostLemmas.{calm_after}
use Rattle.spk_session.proofs.host.SessionsHost.step.Goals as goal

pub invariant_of-result : goal.invariant_of-result
invariant_of-result g c =
    let p = c.deref_mut-held.result.now in
    let a = core_of (g.R.Routes.built_from p.routes) (g.R.Routes.routing p.routes) p.links in
    let sound : IsSound p.frames.items a = rw c.deref_mut-held.ensures.value c.self.invariant in
    let b = core_of (g.R.Routes.built_from c.turn.new.routes) (g.R.Routes.routing c.turn.new.routes) c.turn.new.links in
    let t = c.in_ok-turn.ensures in
    let l = c.drop_closed.new.links in
    sound_after b c.turn.new.frames.items c.drop_closed.new.frames.items l l.dropped c.append.new.other
    t.ready
    c.drop_closed.ensures.waits t.drained
    (count_after g.R.Routes.RULE (event_view c.args.event) p.frames.items c.turn.new.frames.items
    c.drop_closed.new.frames.items a b sound t c.drop_closed.ensures.count)
    (calm_after l c.turn.new.links c.drop_closed.ensures.calm c.drop_closed.ensures.same)
    c.drop_closed.ensures.same c.in_ok-append.ensures.emptied

pub returns-clause-speaker : goal.returns-clause-speaker
returns-clause-speaker g c =
    let p = c.deref_mut-held.result.now in
    let a = core_of (g.R.Routes.built_from p.routes) (g.R.Routes.routing p.routes) p.links in
    let sound : IsSound p.frames.items a = rw c.deref_mut-held.ensures.value c.self.invariant in
    let b = core_of (g.R.Routes.built_from c.turn.new.routes) (g.R.Routes.routing c.turn.new.routes) c.turn.new.links in
    let l = c.drop_closed.new.links in
    rw (← c.self.view_is, ← c.deref_mut-held.ensures.value)
    (shown_after b c.turn.new.frames.items c.drop_closed.new.frames.items l l.dropped c.append.new.other
    c.drop_closed.ensures.waits
    (calm_after l c.turn.new.links c.drop_closed.ensures.calm c.drop_closed.ensures.same) c.drop_closed.ensures.same
    ∙ speaker_stepped g.R.Routes.RULE (event_view c.args.event) p.frames.items c.turn.new.frames.items a b sound
    c.in_ok-turn.ensures)

pub returns-clause-outputs : goal.returns-clause-outputs
returns-clause-outputs g c =
    let p = c.deref_mut-held.result.now in
    let a = core_of (g.R.Routes.built_from p.routes) (g.R.Routes.routing p.routes) p.links in
    let sound : IsSound p.frames.items a = rw c.deref_mut-held.ensures.value c.self.invariant in
    let b = core_of (g.R.Routes.built_from c.turn.new.routes) (g.R.Routes.routing c.turn.new.routes) c.turn.new.links in
    rw (← c.self.view_is, ← c.deref_mut-held.ensures.value)
    (c.in_ok-append.ensures.moved
    ∙ ap (λ (os : List Output). c.args.out.now ++ os)
    (ap (λ (l : Links). l.outputs) c.drop_closed.ensures.same
    ∙ outputs_stepped g.R.Routes.RULE (event_view c.args.event) p.frames.items c.turn.new.frames.items a b sound
    c.in_ok-turn.ensures))

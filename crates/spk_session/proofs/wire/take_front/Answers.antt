use Rattle.std.proofs.Common.{◌∙◌, refl, sym, ap, subst, ◌-◌, false}
use Rattle.std.specs.Vec.{with_item}
use Rattle.xb_wire.specs.Headers.{notification_of}
use Rattle.bgp_frame.specs.Waiting.{Waiting}
use Rattle.spk_session.specs.declared.links.Links.{Links}
use Rattle.spk_session.specs.Meaning.{core_of}
use Rattle.spk_session.specs.Taking.{IsClosed, IsTaken}
use Rattle.spk_session.proofs.FrontLemmas.{does_front, closed_by_message, closed_by_fault, open_by_message}
use Rattle.spk_session.proofs.wire.take_front.Goals as goal

pub returns-then-forget : goal.returns-then-forget
returns-then-forget g c =
    let p = c.args.peer in
    let w = c.args.frames.now.waits in
    let s' = g.R.Routes.built_from c.message_in.new.routes in
    let r' = g.R.Routes.routing c.message_in.new.routes in
    let l' = c.message_in.new.links in
    let a = core_of (g.R.Routes.built_from c.args.routes.now) (g.R.Routes.routing c.args.routes.now) c.args.links.now in
    let b = core_of s' r' l' in
    let whole = c.in-Whole.ensures.front in
    let d = does_front a b p c.in-Whole.len c.in-Whole.kind w c.body.result.now whole.is_of_kind
    (c.body.ensures.value ∙ ap (λ (f : Waiting). f.body) c.in-Whole.ensures.after)
    c.in_ok-message_in-in-Whole.ensures.does in
    subst (λ (x : Links). IsClosed p w a c.clear-then-forget.new.self.waits (core_of s' r' x))
    (sym c.forget-in-Whole.ensures.after)
    (closed_by_message a b (with_item l'.dropped (p - 1) false) p c.in-Whole.len w c.clear-then-forget.new.self.waits
    c.requires.ready c.requires.calm c.requires.peer c.requires.live whole.has_size d
    c.in_ok-message_in-in-Whole.ensures.left (sym c.if-forget.ensures.flag) refl
    (ap (λ (f : Waiting). f.waits) c.clear-then-forget.ensures))

pub returns-in_ok-refuse_header-in-Fault : goal.returns-in_ok-refuse_header-in-Fault
returns-in_ok-refuse_header-in-Fault g c =
    let p = c.args.peer in
    let w = c.args.frames.now.waits in
    let s' = g.R.Routes.built_from c.refuse_header.new.routes in
    let r' = g.R.Routes.routing c.refuse_header.new.routes in
    let l' = c.refuse_header.new.links in
    let a = core_of (g.R.Routes.built_from c.args.routes.now) (g.R.Routes.routing c.args.routes.now) c.args.links.now in
    subst (λ (x : Links). IsClosed p w a c.clear.new.self.waits (core_of s' r' x)) (sym c.forget.ensures.after)
    (closed_by_fault a (core_of s' r' l') (with_item l'.dropped (p - 1) false) p (notification_of c.in-Fault.fault) w
    c.clear.new.self.waits c.requires.ready c.requires.calm c.requires.peer c.requires.live
    c.in-Fault.ensures.front.1 c.in_ok-refuse_header-in-Fault.ensures.does
    c.in_ok-refuse_header-in-Fault.ensures.closed refl (ap (λ (f : Waiting). f.waits) c.clear.ensures))

pub returns-else-forget : goal.returns-else-forget
returns-else-forget g c =
    let p = c.args.peer in
    let w = c.args.frames.now.waits in
    let s' = g.R.Routes.built_from c.message_in.new.routes in
    let r' = g.R.Routes.routing c.message_in.new.routes in
    let l' = c.message_in.new.links in
    let a = core_of (g.R.Routes.built_from c.args.routes.now) (g.R.Routes.routing c.args.routes.now) c.args.links.now in
    let b = core_of s' r' l' in
    let whole = c.in-Whole.ensures.front in
    let d = does_front a b p c.in-Whole.len c.in-Whole.kind w c.body.result.now whole.is_of_kind
    (c.body.ensures.value ∙ ap (λ (f : Waiting). f.body) c.in-Whole.ensures.after)
    c.in_ok-message_in-in-Whole.ensures.does in
    subst (λ (x : Links). IsTaken p w a c.next.new.self.waits (core_of s' r' x)) (sym c.forget-in-Whole.ensures.after)
    (open_by_message a b (with_item l'.dropped (p - 1) false) p c.in-Whole.len w c.next.new.self.waits
    c.requires.ready c.requires.calm c.requires.peer c.requires.live whole.has_size d
    c.in_ok-message_in-in-Whole.ensures.left (sym c.if-forget.ensures.flag) refl
    (ap (λ (f : Waiting). f.waits) c.in-Whole.ensures.after))

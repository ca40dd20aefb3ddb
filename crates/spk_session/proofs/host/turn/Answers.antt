use Rattle.std.proofs.Common.{ap, subst, length}
use Rattle.std.proofs.lemmas.Result.{on_ok_weaker}
use Rattle.xb_domain.specs.Views.{event_view}
use Rattle.xb_domain.specs.Events.{start, stop, up, down, time, room, drain, rescan}
use Rattle.replay_log.specs.Lines.{IsFor}
use Rattle.spk_session.specs.Meaning.{core_of}
use Rattle.spk_session.proofs.Following.{on_ok_two}
use Rattle.spk_session.proofs.HostLemmas.{turns_by, by_start, by_stop, by_up, by_down, by_time, by_room, by_drain}
use Rattle.spk_session.proofs.HostLemmas.{by_rescan, by_octets, buffer_drained, peer_there}
use Rattle.spk_session.proofs.host.turn.Goals as goal

pub octets_in-requires-clause-drained : goal.octets_in-requires-clause-drained
octets_in-requires-clause-drained g c =
    let frames = c.args.frames.now.items in
    let a = core_of (g.R.Routes.built_from c.args.routes.now) (g.R.Routes.routing c.args.routes.now) c.args.links.now in
    let p = c.in-Octets.peer in
    let peer = subst (IsFor (length ((a.setup).config).peers) c.args.links.now.clock) (ap event_view c.in-Octets.is)
    c.requires.configured in
    buffer_drained frames a p c.index_mut-buffer.result.now c.requires.sound
    (peer_there a p (c.requires.sound).ready peer) c.index_mut-buffer.ensures.value

pub returns-in-Start : goal.returns-in-Start
returns-in-Start g c =
    let rule = g.R.Routes.RULE in
    let frames = c.args.frames.now.items in
    let a = core_of (g.R.Routes.built_from c.args.routes.now) (g.R.Routes.routing c.args.routes.now) c.args.links.now in
    let b = core_of (g.R.Routes.built_from c.react.new.routes) (g.R.Routes.routing c.react.new.routes)
    c.react.new.links in
    on_ok_weaker c.react.result
    (λ d. turns_by rule (event_view c.args.event) (start c.in-Start.peer) frames a b c.requires.sound
    (ap event_view c.in-Start.is)
    (by_start rule c.in-Start.peer a b d))
    c.react.ensures.does

pub returns-in-Stop : goal.returns-in-Stop
returns-in-Stop g c =
    let rule = g.R.Routes.RULE in
    let frames = c.args.frames.now.items in
    let a = core_of (g.R.Routes.built_from c.args.routes.now) (g.R.Routes.routing c.args.routes.now) c.args.links.now in
    let b = core_of (g.R.Routes.built_from c.react-in-Stop.new.routes) (g.R.Routes.routing c.react-in-Stop.new.routes)
    c.react-in-Stop.new.links in
    on_ok_weaker c.react-in-Stop.result
    (λ d. turns_by rule (event_view c.args.event) (stop c.in-Stop.peer) frames a b c.requires.sound
    (ap event_view c.in-Stop.is)
    (by_stop rule c.in-Stop.peer a b d))
    c.react-in-Stop.ensures.does

pub returns-in-Up : goal.returns-in-Up
returns-in-Up g c =
    let rule = g.R.Routes.RULE in
    let frames = c.args.frames.now.items in
    let a = core_of (g.R.Routes.built_from c.args.routes.now) (g.R.Routes.routing c.args.routes.now) c.args.links.now in
    let b = core_of (g.R.Routes.built_from c.react-in-Up.new.routes) (g.R.Routes.routing c.react-in-Up.new.routes)
    c.react-in-Up.new.links in
    on_ok_weaker c.react-in-Up.result
    (λ d. turns_by rule (event_view c.args.event) (up c.in-Up.peer) frames a b c.requires.sound
    (ap event_view c.in-Up.is)
    (by_up rule c.in-Up.peer a b d))
    c.react-in-Up.ensures.does

pub returns-in-Down : goal.returns-in-Down
returns-in-Down g c =
    let rule = g.R.Routes.RULE in
    let frames = c.args.frames.now.items in
    let a = core_of (g.R.Routes.built_from c.args.routes.now) (g.R.Routes.routing c.args.routes.now) c.args.links.now in
    let b = core_of (g.R.Routes.built_from c.react-in-Down.new.routes) (g.R.Routes.routing c.react-in-Down.new.routes)
    c.react-in-Down.new.links in
    on_ok_weaker c.react-in-Down.result
    (λ d. turns_by rule (event_view c.args.event) (down c.in-Down.peer) frames a b c.requires.sound
    (ap event_view c.in-Down.is)
    (by_down rule c.in-Down.peer a b d))
    c.react-in-Down.ensures.does

pub returns-in-Octets : goal.returns-in-Octets
returns-in-Octets g c =
    let rule = g.R.Routes.RULE in
    let frames = c.args.frames.now.items in
    let a = core_of (g.R.Routes.built_from c.args.routes.now) (g.R.Routes.routing c.args.routes.now) c.args.links.now in
    let p = c.in-Octets.peer in
    let b = core_of (g.R.Routes.built_from c.octets_in.new.routes) (g.R.Routes.routing c.octets_in.new.routes)
    c.octets_in.new.links in
    let peer = subst (IsFor (length ((a.setup).config).peers) c.args.links.now.clock) (ap event_view c.in-Octets.is)
    c.requires.configured in
    on_ok_weaker c.octets_in.result
    (λ r. by_octets rule (event_view c.args.event) p c.in-Octets.piece.now frames a b c.index_mut-buffer.result.now
    c.octets_in.new.frames c.requires.sound (peer_there a p (c.requires.sound).ready peer)
    c.index_mut-buffer.ensures.value (ap event_view c.in-Octets.is) r)
    c.octets_in.ensures

pub returns-in-Time : goal.returns-in-Time
returns-in-Time g c =
    let rule = g.R.Routes.RULE in
    let frames = c.args.frames.now.items in
    let a = core_of (g.R.Routes.built_from c.args.routes.now) (g.R.Routes.routing c.args.routes.now) c.args.links.now in
    let b = core_of (g.R.Routes.built_from c.time_to.new.routes) (g.R.Routes.routing c.time_to.new.routes)
    c.time_to.new.links in
    on_ok_weaker c.time_to.result
    (λ d. turns_by rule (event_view c.args.event) (time c.in-Time.now) frames a b c.requires.sound
    (ap event_view c.in-Time.is)
    (by_time rule c.in-Time.now a b d))
    c.time_to.ensures

pub returns-in-Room : goal.returns-in-Room
returns-in-Room g c =
    let rule = g.R.Routes.RULE in
    let frames = c.args.frames.now.items in
    let a = core_of (g.R.Routes.built_from c.args.routes.now) (g.R.Routes.routing c.args.routes.now) c.args.links.now in
    let b = core_of (g.R.Routes.built_from c.emit.new.routes) (g.R.Routes.routing c.emit.new.routes)
    c.emit.new.links in
    on_ok_weaker c.emit.result
    (λ d. turns_by rule (event_view c.args.event) (room c.in-Room.peer c.in-Room.octets) frames a b c.requires.sound
    (ap event_view c.in-Room.is)
    (by_room rule c.in-Room.peer c.in-Room.octets a b d))
    c.emit.ensures

pub returns-in-Drain : goal.returns-in-Drain
returns-in-Drain g c =
    let rule = g.R.Routes.RULE in
    let frames = c.args.frames.now.items in
    let a = core_of (g.R.Routes.built_from c.args.routes.now) (g.R.Routes.routing c.args.routes.now) c.args.links.now in
    let b = core_of (g.R.Routes.built_from c.emit-in-Drain.new.routes) (g.R.Routes.routing c.emit-in-Drain.new.routes)
    c.emit-in-Drain.new.links in
    on_ok_weaker c.emit-in-Drain.result
    (λ d. turns_by rule (event_view c.args.event) (drain c.in-Drain.peer) frames a b c.requires.sound
    (ap event_view c.in-Drain.is)
    (by_drain rule c.in-Drain.peer a b d))
    c.emit-in-Drain.ensures

pub returns-in-Rescan : goal.returns-in-Rescan
returns-in-Rescan g c =
    let rule = g.R.Routes.RULE in
    let frames = c.args.frames.now.items in
    let s = g.R.Routes.built_from c.args.routes.now in
    let r = g.R.Routes.routing c.args.routes.now in
    let s' = g.R.Routes.built_from c.rescan.new.self in
    let r' = g.R.Routes.routing c.rescan.new.self in
    let l = c.args.links.now in
    on_ok_two c.rescan.result
    (λ same goes. turns_by rule (event_view c.args.event) rescan frames (core_of s r l) (core_of s' r' l)
    c.requires.sound (ap event_view c.in-Rescan.is)
    (by_rescan rule s s' r r' l c.deref.result.now (c.requires.sound).ready same c.deref.ensures.value goes))
    c.rescan.ensures.setup c.rescan.ensures.routes

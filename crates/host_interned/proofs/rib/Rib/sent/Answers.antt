use Rattle.std.proofs.Common.{sym, ◌∙◌, ◌-◌, ap, Some, Option}
use Rattle.std.specs.Option.{option_map}
use Rattle.bgp_attr.specs.Routes.{Route}
use Rattle.host_interned.specs.Ribs.{meant, route_or, times_held}
use Rattle.host_interned.proofs.HeldLemmas.{held-sent, sent_live, sent_lives}
use Rattle.host_interned.proofs.KeptLemmas.{peer_inside, sent_seen}
use Rattle.host_interned.proofs.LivingLemmas.{sound_route}
use Rattle.host_interned.proofs.rib.Rib.sent.Goals as goal

pub returns-in_err-id-clause-value : goal.returns-in_err-id-clause-value
returns-in_err-id-clause-value c =
    let r = c.self.inside in
    ap (option_map (λ l. l.now)) c.from_residual.ensures
    ∙ ap (option_map (meant r.records)) c.in_err-id.ensures.value
    ∙ sym (sent_seen r.records r.own r.best r.peers.items c.args.self.now c.args.peer c.index.result.now c.self.view_is
    c.requires.least c.requires.most c.index.ensures c.args.prefix)

pub get-requires : goal.get-requires
get-requires c =
    let r = c.self.inside in
    let t = c.index.result.now in
    let inside = peer_inside r.records r.own r.best r.peers.items c.args.self.now c.args.peer t c.self.view_is
    c.requires.least c.requires.most c.index.ensures in
    sent_lives r.records t.sent c.args.prefix c.in_ok-id.field-0.now
    (sent_live r.records (λ id. times_held id r.own r.best r.peers.items) t c.self.invariant.owned
    (held-sent r.own r.best r.peers.items (c.args.peer - 1) t inside c.index.ensures))
    (sym c.in_ok-id.ensures.value)

pub returns-clause-value : goal.returns-clause-value
returns-clause-value c =
    let r = c.self.inside in
    sym (sent_seen r.records r.own r.best r.peers.items c.args.self.now c.args.peer c.index.result.now c.self.view_is
    c.requires.least c.requires.most c.index.ensures c.args.prefix
    ∙ sym (ap (option_map (meant r.records)) c.in_ok-id.ensures.value)
    ∙ ap (λ (x : Option Route). Some (route_or x)) c.get.ensures.route)

pub returns-clause-sound : goal.returns-clause-sound
returns-clause-sound c =
    let r = c.self.inside in
    sound_route r.records c.in_ok-id.field-0.now c.get.result.now c.self.invariant.sound c.get.ensures.route

use Rattle.std.proofs.Common.{◌≤◌, ◌∙◌, sym, ap, subst, ℕ, length}
use Rattle.std.specs.Prelude.{nat_le}
use Rattle.std.proofs.Math.Facts.{Fits-lt-pow}
use Rattle.host_interned.proofs.FollowingLemmas.{match_goes}
use Rattle.xb_wire.specs.declared.numbers.TheConstants.{MAX_MESSAGE}
use Rattle.xb_values.specs.Prefixes.{prefixes}
use Rattle.bgp_attr.specs.Routes.{Route, canon}
use Rattle.bgp_path.proofs.NumbersLemmas.{AreOctets-from_get_or}
use Rattle.host_interned.proofs.SoundLemmas.{wide_at, section_faultless, route_is, received_sound}
use Rattle.host_interned.proofs.UpdateLemmas.{announces, announces_not}
use Rattle.host_interned.proofs.routing.Core.announce.Goals as goal

pub read_route-requires-clause-faultless : goal.read_route-requires-clause-faultless
read_route-requires-clause-faultless c =
    section_faultless c.args.sessions.now c.args.peer c.args.section.now c.wide-wide.result
    (wide_at c.args.sessions.now c.args.peer c.index-sessions-peer.result c.wide-wide.result c.requires.least
    (subst (λ (n : ℕ). c.args.peer ≤ n) (sym c.requires.all) c.requires.most) c.index-sessions-peer.is
    c.wide-wide.ensures)
    c.requires.good

pub receive-requires-clause-sound : goal.receive-requires-clause-sound
receive-requires-clause-sound c =
    let a = c.args.self.now in
    let wide_is = wide_at c.args.sessions.now c.args.peer c.index-sessions-peer.result c.wide-wide.result
    c.requires.least (subst (λ (n : ℕ). c.args.peer ≤ n) (sym c.requires.all) c.requires.most)
    c.index-sessions-peer.is c.wide-wide.ensures in
    let same = route_is a c.args.sessions.now c.args.peer c.side_of-side.result c.args.section.now c.wide-wide.result
    c.side_of-side.ensures wide_is in
    received_sound a c.args.sessions.now c.args.peer c.args.section.now c.read_route.new.route.route
    (AreOctets-from_get_or c.args.section.now (λ i. Fits-lt-pow (c.type_inv.section i))) c.requires.good
    (c.if-read_route.ensures.route ∙ same)
    (sym (ap (λ (r : Route). nat_le (length (canon r)) MAX_MESSAGE) same) ∙ sym c.if-read_route.ensures.fits)

pub returns-then-read_route : goal.returns-then-read_route
returns-then-read_route c =
    let a = c.args.self.now in
    let wide_is = wide_at c.args.sessions.now c.args.peer c.index-sessions-peer.result c.wide-wide.result
    c.requires.least (subst (λ (n : ℕ). c.args.peer ≤ n) (sym c.requires.all) c.requires.most)
    c.index-sessions-peer.is c.wide-wide.ensures in
    let same = route_is a c.args.sessions.now c.args.peer c.side_of-side.result c.args.section.now c.wide-wide.result
    c.side_of-side.ensures wide_is in
    match_goes c.receive.result _ _ c.receive.new.self
    (λ d u section_is. announces a c.read_route.new.route c.receive.new.self c.args.sessions.now c.args.now c.args.peer
    c.args.body.now c.args.section.now u (prefixes c.args.nlri.now) section_is
    (sym (ap (λ (r : Route). nat_le (length (canon r)) MAX_MESSAGE) same) ∙ sym c.if-read_route.ensures.fits)
    (c.if-read_route.ensures.route ∙ same) d)
    c.receive.ensures

pub returns : goal.returns
returns c u section_is =
    let a = c.args.self.now in
    let wide_is = wide_at c.args.sessions.now c.args.peer c.index-sessions-peer.result c.wide-wide.result
    c.requires.least (subst (λ (n : ℕ). c.args.peer ≤ n) (sym c.requires.all) c.requires.most)
    c.index-sessions-peer.is c.wide-wide.ensures in
    let same = route_is a c.args.sessions.now c.args.peer c.side_of-side.result c.args.section.now c.wide-wide.result
    c.side_of-side.ensures wide_is in
    announces_not a c.read_route.new.route c.drop_all.new.self c.args.sessions.now c.args.now c.args.peer
    c.args.body.now c.args.section.now u (prefixes c.args.nlri.now) section_is
    (sym (ap (λ (r : Route). nat_le (length (canon r)) MAX_MESSAGE) same) ∙ sym c.if-read_route.ensures.fits)
    c.drop_all.ensures

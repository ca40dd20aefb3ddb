use Rattle.std.proofs.Common.{◌-◌, ◌∙◌, sym, ap, refl, Some, None}
use Rattle.std.specs.List.{slice_set}
use Rattle.std.specs.Vec.{with_item}
use Rattle.spk_model.specs.Routing.{Tables}
use Rattle.host_listed.proofs.FollowingLemmas.{goes_ok}
use Rattle.host_listed.proofs.ExportLemmas.{exports, loaded_best, loaded_found, loaded_missing, not_exported, retracted}
use Rattle.host_listed.proofs.ExportLemmas.{ready_exported, source_within}
use Rattle.host_listed.proofs.routing.Core.export_loaded.Goals as goal

pub returns-then-not-is_up-clause-goes : goal.returns-then-not-is_up-clause-goes
returns-then-not-is_up-clause-goes c =
    not_exported c.args.self.now c.args.sessions.now c.args.prefix c.args.peer c.index-sessions-i.result c.requires.ready
    c.requires.all c.requires.least c.requires.most c.index-sessions-i.is (sym c.is_up.ensures ∙ c.if-not-is_up.true)

pub returns-in_default-clause-goes : goal.returns-in_default-clause-goes
returns-in_default-clause-goes c =
    let a = c.args.self.now in
    let p = c.args.peer in
    retracted a (with_item a.peers (p - 1) c.retract.new.self) c.args.sessions.now c.args.prefix p
    c.index_mut.result.now c.index-sessions-i.result c.requires.ready c.requires.all c.requires.least c.requires.most
    c.index-sessions-i.is (sym c.is_up.ensures ∙ c.if-not-is_up.false)
    (loaded_missing a c.args.prefix c.args.source c.requires.loaded c.in_default.is)
    c.index_mut.ensures.value (ap (λ (x : Tables). slice_set a.peers.items (p - 1) x) c.retract.ensures)

pub side_of-from-requires-clause-number : goal.side_of-from-requires-clause-number
side_of-from-requires-clause-number c =
    let a = c.args.self.now in
    source_within a c.args.prefix (loaded_best a c.in-Some.number) c.requires.ready
    (loaded_found a c.args.prefix c.args.source c.in-Some.number c.requires.loaded c.in-Some.is)

pub returns-then-export-clause-goes : goal.returns-then-export-clause-goes
returns-then-export-clause-goes c =
    let a = c.args.self.now in
    let p = c.args.peer in
    let x = c.if-export.ensures.exports in
    goes_ok c.advertise.result _ a _
    (λ e. exports a c.export.new.engine (with_item a.peers (p - 1) c.advertise.new.self) c.export.new.self
    c.args.sessions.now c.args.prefix p c.index_mut-then-export.result.now c.index-sessions-i.result
    c.index-sessions-i-2.result (loaded_best a c.in-Some.number) c.in-Some.number (a.exporter).best c.side_of-to.result
    c.side_of-from.result c.wide.result (Some c.section.result.now)
    c.requires.ready c.requires.all c.requires.least c.requires.most c.index-sessions-i.is
    (sym c.is_up.ensures ∙ c.if-not-is_up.false)
    (loaded_found a c.args.prefix c.args.source c.in-Some.number c.requires.loaded c.in-Some.is) refl refl
    c.side_of-to.ensures c.side_of-from.ensures c.index-sessions-i-2.is c.wide.ensures
    (x.section.0 ∙ ap Some (sym c.section.ensures)) x.engine x.manifest x.local c.index_mut-then-export.ensures.value
    (ap (λ (y : Tables). slice_set a.peers.items (p - 1) y) e))
    (ready_exported a c.export.new.engine (with_item a.peers (p - 1) c.advertise.new.self) c.export.new.self p
    c.advertise.new.self c.requires.ready x.local refl)
    c.advertise.ensures.ok

pub returns-else-export-clause-goes : goal.returns-else-export-clause-goes
returns-else-export-clause-goes c =
    let a = c.args.self.now in
    let p = c.args.peer in
    let x = c.if-export.ensures.exports in
    exports a c.export.new.engine (with_item a.peers (p - 1) c.retract-else-export.new.self) c.export.new.self
    c.args.sessions.now c.args.prefix p c.index_mut-else-export.result.now c.index-sessions-i.result
    c.index-sessions-i-2.result (loaded_best a c.in-Some.number) c.in-Some.number (a.exporter).best c.side_of-to.result
    c.side_of-from.result c.wide.result None
    c.requires.ready c.requires.all c.requires.least c.requires.most c.index-sessions-i.is
    (sym c.is_up.ensures ∙ c.if-not-is_up.false)
    (loaded_found a c.args.prefix c.args.source c.in-Some.number c.requires.loaded c.in-Some.is) refl refl
    c.side_of-to.ensures c.side_of-from.ensures c.index-sessions-i-2.is c.wide.ensures
    x.section x.engine x.manifest x.local c.index_mut-else-export.ensures.value
    (ap (λ (y : Tables). slice_set a.peers.items (p - 1) y) c.retract-else-export.ensures)

use Rattle.std.proofs.Common.{◌∙◌, sym, ap, refl, Some, None}
use Rattle.host_interned.proofs.FollowingLemmas.{goes_both}
use Rattle.host_interned.proofs.ShownLemmas.{ready_same}
use Rattle.host_interned.proofs.ExportLemmas.{exports, loaded_best, loaded_found, loaded_missing, not_exported}
use Rattle.host_interned.proofs.ExportLemmas.{retracted, source_within}
use Rattle.host_interned.proofs.routing.Core.export_loaded.Goals as goal

pub returns-then-not-is_up-clause-goes : goal.returns-then-not-is_up-clause-goes
returns-then-not-is_up-clause-goes c =
    not_exported c.args.self.now c.args.sessions.now c.args.prefix c.args.peer c.index-sessions-i.result
    c.requires.ready
    c.requires.all c.requires.least c.requires.most c.index-sessions-i.is (sym c.is_up.ensures ∙ c.if-not-is_up.true)

pub returns-in_default-clause-goes : goal.returns-in_default-clause-goes
returns-in_default-clause-goes c =
    let a = c.args.self.now in
    retracted a c.retract.new.self c.args.sessions.now c.args.prefix c.args.peer c.index-sessions-i.result
    c.requires.ready c.requires.all c.requires.least c.requires.most c.index-sessions-i.is
    (sym c.is_up.ensures ∙ c.if-not-is_up.false)
    (loaded_missing a c.args.prefix c.args.source c.requires.loaded c.in_default.is) c.retract.ensures

pub side_of-from-requires-clause-number : goal.side_of-from-requires-clause-number
side_of-from-requires-clause-number c =
    let a = c.args.self.now in
    source_within a c.args.prefix (loaded_best a c.in-Some.number) c.requires.ready
    (loaded_found a c.args.prefix c.args.source c.in-Some.number c.requires.loaded c.in-Some.is)

pub returns-then-export-clause-goes : goal.returns-then-export-clause-goes
returns-then-export-clause-goes c =
    let a = c.args.self.now in
    let x = c.if-export.ensures.exports in
    goes_both c.advertise.result _ a _
    (λ e. exports a c.export.new.engine c.advertise.new.self c.export.new.self c.args.sessions.now c.args.prefix
    c.args.peer c.index-sessions-i.result c.index-sessions-i-2.result (loaded_best a c.in-Some.number)
    c.in-Some.number (a.exporter).best c.side_of-to.result c.side_of-from.result c.wide.result
    (Some c.section.result.now)
    c.requires.ready c.requires.all c.requires.least c.requires.most c.index-sessions-i.is
    (sym c.is_up.ensures ∙ c.if-not-is_up.false)
    (loaded_found a c.args.prefix c.args.source c.in-Some.number c.requires.loaded c.in-Some.is) refl refl
    c.side_of-to.ensures c.side_of-from.ensures c.index-sessions-i-2.is c.wide.ensures
    (x.section.0 ∙ ap Some (sym c.section.ensures)) x.engine x.manifest x.local e)
    (λ e. ready_same a c.export.new.engine c.advertise.new.self a.received a.route c.export.new.self c.requires.ready
    x.local e)
    c.advertise.ensures.ok c.advertise.ensures.err

pub returns-else-export-clause-goes : goal.returns-else-export-clause-goes
returns-else-export-clause-goes c =
    let a = c.args.self.now in
    let x = c.if-export.ensures.exports in
    exports a c.export.new.engine c.retract-else-export.new.self c.export.new.self c.args.sessions.now c.args.prefix
    c.args.peer c.index-sessions-i.result c.index-sessions-i-2.result (loaded_best a c.in-Some.number)
    c.in-Some.number (a.exporter).best c.side_of-to.result c.side_of-from.result c.wide.result None
    c.requires.ready c.requires.all c.requires.least c.requires.most c.index-sessions-i.is
    (sym c.is_up.ensures ∙ c.if-not-is_up.false)
    (loaded_found a c.args.prefix c.args.source c.in-Some.number c.requires.loaded c.in-Some.is) refl refl
    c.side_of-to.ensures c.side_of-from.ensures c.index-sessions-i-2.is c.wide.ensures
    x.section x.engine x.manifest x.local c.retract-else-export.ensures

use Rattle.spk_routes.proofs.ExportLemmas.{advertised_natively, not_advertised, not_passed, then_encoded}
use Rattle.spk_routes.proofs.export.Exporter.export.Goals as goal

pub returns-then-is_refused-clause-exports : goal.returns-then-is_refused-clause-exports
returns-then-is_refused-clause-exports c =
    not_advertised c.args.engine.now c.args.config.now.local c.args.config.now.local_pref c.args.peer.now c.args.wide
    c.args.source.now c.args.prefix c.args.self.now.best _ c.if-is_refused.ensures

pub returns-then-not-pass_outbound-clause-exports : goal.returns-then-not-pass_outbound-clause-exports
returns-then-not-pass_outbound-clause-exports c =
    rw (← c.self.view_is)
    (not_passed c.args.engine.now c.pass_outbound.new.engine c.args.config.now.local c.args.config.now.local_pref
    c.args.peer.now c.args.wide c.args.source.now c.args.prefix c.self.inside.best.route
    c.pass_outbound.new.route.route _ c.if-not-pass_outbound.ensures)

pub returns-clause-exports : goal.returns-clause-exports
returns-clause-exports c =
    rw (← c.self.view_is)
    (then_encoded c.args.engine.now c.pass_outbound.new.engine c.encode_route.new.engine c.args.config.now.local
    c.args.config.now.local_pref c.args.peer.now c.args.wide c.args.source.now c.args.prefix
    c.self.inside.best.route c.pass_outbound.new.route.route c.encode_route.result _
    c.requires.local c.if-not-pass_outbound.ensures c.encode_route.ensures.exports)

pub returns-then-runs_none-clause-exports : goal.returns-then-runs_none-clause-exports
returns-then-runs_none-clause-exports c =
    rw (← c.self.view_is)
    (advertised_natively c.args.engine.now c.args.config.now.local c.args.config.now.local_pref c.args.peer.now
    c.args.wide c.args.source.now c.args.prefix _ c.write.result _
    c.if-runs_none.ensures (c.if-is_refused.ensures c.if-runs_none.ensures.outbound)
    c.write.ensures.written)

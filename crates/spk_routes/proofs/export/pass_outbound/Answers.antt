use Rattle.std.proofs.Common.{◌≡◌, sym, ap, subst}
use Rattle.std.specs.Prelude.{IsTrue}
use Rattle.xb_domain.specs.declared.side.Side.{Side}
use Rattle.xbgp_config.specs.Configs.{is_host_address}
use Rattle.bgp_attr.specs.Routes.{Route}
use Rattle.xbgp_view.specs.Views.{Edited}
use Rattle.spk_native.specs.Values.{HasNoFault}
use Rattle.spk_routes.proofs.ExportLemmas.{passes}
use Rattle.spk_native.proofs.FormedLemmas.{IsFormed-IsRoute}
use Rattle.spk_native.proofs.SentLemmas.{HasNoFault-carry}
use Rattle.spk_routes.proofs.export.pass_outbound.Goals as goal

pub returns : goal.returns
returns g c =
    let best : Route = g.R.RouteView.route c.args.best.now in
    let loaded : c.load.new.self.route ≡ best = ap (λ (e : Edited). e.route) c.load.ensures in
    let carried = ap (λ (e : Edited). e.route) c.export_attrs.ensures.carried in
    passes c.args.config.now c.args.engine.now c.outbound-outcome.new.self c.args.peer.now c.args.source.now
    c.args.prefix best c.load.new.self.route c.export_attrs.new.route.route c.outbound-outcome.new.route.route
    c.outbound-outcome.result c.local_of.result c.local_pref_of.result c.outbound_native.result c.accepts.result
    c.requires.local c.local_of.ensures.value c.local_pref_of.ensures loaded carried
    c.outbound-outcome.ensures.answers c.outbound_native.ensures c.accepts.ensures
    c.see_shape-2.ensures
    (c.outbound-outcome.ensures.keeps.faultless
    (subst HasNoFault (sym carried)
    (HasNoFault-carry c.load.new.self.route c.args.source.now c.args.peer.now c.local_of.result
    c.local_pref_of.result (IsFormed-IsRoute c.load.new.self.route c.see_shape.ensures)
    (subst HasNoFault (sym loaded) c.requires.sound.faultless)
    (subst (λ (s : Side). IsTrue (is_host_address s.address)) (sym c.local_of.ensures.value)
    c.local_of.ensures.kept.address))))

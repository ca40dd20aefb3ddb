use Rattle.std.proofs.Common.{◌∙◌, sym}
use Rattle.xbgp_config.specs.Configs.{same_prefix}
use Rattle.spk_routes.proofs.StepLemmas.{list_any-here, list_any-later}
use Rattle.spk_routes.proofs.sides.has_network.Goals as goal

pub returns-then-is_same : goal.returns-then-is_same
returns-then-is_same c =
    sym (list_any-here (same_prefix c.args.prefix) c.args.networks.now c.loop-i.i c.get.result c.get.ensures
    (sym c.is_same.ensures ∙ c.if-is_same.true))
    ∙ c.loop-i.invariant

pub loop-i-preserved : goal.loop-i-preserved
loop-i-preserved c =
    sym (list_any-later (same_prefix c.args.prefix) c.args.networks.now c.loop-i.i c.get.result c.get.ensures
    (sym c.is_same.ensures ∙ c.if-is_same.false))
    ∙ c.loop-i.invariant

use Rattle.std.proofs.Common.{◌∙◌, ap, subst, sym}
use Rattle.xbgp_view.specs.Views.{Edited}
use Rattle.spk_native.specs.Values.{IsFaultless}
use Rattle.test_native.proofs.CheckedLemmas.{IsFaultless-checked}
use Rattle.test_native.proofs.widened.Goals as goal

pub widen_route-requires : goal.widen_route-requires
widen_route-requires c =
    subst (IsFaultless 2) (sym (ap (λ (e : Edited). e.route) c.read.ensures))
    (IsFaultless-checked 2 c.args.section.now _ c.check_section.result (sym c.is_some.ensures ∙ c.if-is_some.false)
    c.check_section.ensures.fault)

use Rattle.std.proofs.Common.{◌∙◌, ap, subst, sym}
use Rattle.xbgp_view.specs.Views.{Edited}
use Rattle.spk_native.specs.Values.{IsFaultless}
use Rattle.test_native.proofs.CheckedLemmas.{IsFaultless-checked}
use Rattle.test_native.proofs.narrowed.Goals as goal

pub narrow_route-requires : goal.narrow_route-requires
narrow_route-requires c =
    subst (IsFaultless 4) (sym (ap (λ (e : Edited). e.route) c.read.ensures))
    (IsFaultless-checked 4 c.args.section.now _ c.check_section4.result (sym c.is_some.ensures ∙ c.if-is_some.false)
    c.check_section4.ensures.fault)

use Rattle.std.proofs.Common.{sym, ap, subst}
use Rattle.xbgp_view.specs.Views.{Edited}
use Rattle.spk_native.specs.Values.{HasNoFault}
use Rattle.spk_native.proofs.SentLemmas.{HasNoFault-native_section}
use Rattle.spk_routes.proofs.section.write_sent.Goals as goal

pub write_narrow-requires-clause-faultless : goal.write_narrow-requires-clause-faultless
write_narrow-requires-clause-faultless c =
    subst HasNoFault (sym (ap (λ (e : Edited). e.route) c.hold_back.ensures.route))
    (HasNoFault-native_section c.args.route.now.route c.see_shape.ensures c.requires.faultless)

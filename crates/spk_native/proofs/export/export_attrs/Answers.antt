use Rattle.std.proofs.Common.{◌∙◌, refl, ap, length, arith}
use Rattle.bgp_attr.specs.declared.codes.TheConstants.{AS_PATH, NEXT_HOP}
use Rattle.bgp_attr.specs.Routes.{canon}
use Rattle.xbgp_view.specs.Views.{Edited}
use Rattle.spk_native.specs.Values.{has_sound}
use Rattle.spk_native.proofs.MarksLemmas.{length-canon-marked}
use Rattle.spk_native.proofs.CarryLemmas.{has_sound-marked}
use Rattle.spk_native.proofs.export.export_attrs.Goals as goal

pub send_external-requires-clause-short : goal.send_external-requires-clause-short
send_external-requires-clause-short c =
    omega (
      arith,
      c.requires.short,
      ap (λ (e : Edited). length (canon e.route)) c.mark_all.ensures,
      length-canon-marked c.args.route.now.route,
    )

pub send_external-requires-clause-path : goal.send_external-requires-clause-path
send_external-requires-clause-path c =
    ap (λ (e : Edited). has_sound e.route AS_PATH) c.mark_all.ensures
    ∙ has_sound-marked c.args.route.now.route AS_PATH refl ∙ c.requires.path

pub send_external-requires-clause-next_hop : goal.send_external-requires-clause-next_hop
send_external-requires-clause-next_hop c =
    ap (λ (e : Edited). has_sound e.route NEXT_HOP) c.mark_all.ensures
    ∙ has_sound-marked c.args.route.now.route NEXT_HOP refl ∙ c.requires.next_hop

pub send_internal-requires : goal.send_internal-requires
send_internal-requires c =
    omega (
      arith,
      c.requires.short,
      ap (λ (e : Edited). length (canon e.route)) c.mark_all.ensures,
      length-canon-marked c.args.route.now.route,
    )

pub returns-then-peer-eq-EXTERNAL-clause-bound : goal.returns-then-peer-eq-EXTERNAL-clause-bound
returns-then-peer-eq-EXTERNAL-clause-bound c =
    omega (
      arith,
      c.send_external.ensures.bound,
      ap (λ (e : Edited). length (canon e.route)) c.mark_all.ensures,
      length-canon-marked c.args.route.now.route,
    )

pub returns-else-peer-eq-EXTERNAL-clause-bound : goal.returns-else-peer-eq-EXTERNAL-clause-bound
returns-else-peer-eq-EXTERNAL-clause-bound c =
    omega (
      arith,
      c.send_internal.ensures.bound,
      ap (λ (e : Edited). length (canon e.route)) c.mark_all.ensures,
      length-canon-marked c.args.route.now.route,
    )

use Rattle.std.proofs.Common.{◌∙◌, ap, sym}
use Rattle.bgp_attr.specs.declared.codes.TheConstants.{ORIGIN, AS_PATH, NEXT_HOP}
use Rattle.xbgp_view.specs.Views.{Edited}
use Rattle.spk_native.specs.Values.{has_sound}
use Rattle.test_native.proofs.CheckedLemmas.{has_sound-checked}
use Rattle.test_native.proofs.sent_on.Goals as goal

pub export_attrs-requires-clause-origin : goal.export_attrs-requires-clause-origin
export_attrs-requires-clause-origin c =
    let sound = has_sound-checked c.args.section.now _ c.check_section4.result
    (sym c.is_some.ensures ∙ c.if-is_some.false) c.check_section4.ensures.fault in
    ap (λ (e : Edited). has_sound e.route ORIGIN) c.read.ensures ∙ sound.origin

pub export_attrs-requires-clause-path : goal.export_attrs-requires-clause-path
export_attrs-requires-clause-path c =
    let sound = has_sound-checked c.args.section.now _ c.check_section4.result
    (sym c.is_some.ensures ∙ c.if-is_some.false) c.check_section4.ensures.fault in
    ap (λ (e : Edited). has_sound e.route AS_PATH) c.read.ensures ∙ sound.path

pub export_attrs-requires-clause-next_hop : goal.export_attrs-requires-clause-next_hop
export_attrs-requires-clause-next_hop c =
    let sound = has_sound-checked c.args.section.now _ c.check_section4.result
    (sym c.is_some.ensures ∙ c.if-is_some.false) c.check_section4.ensures.fault in
    ap (λ (e : Edited). has_sound e.route NEXT_HOP) c.read.ensures ∙ sound.next_hop

use Rattle.std.proofs.Common.{◌∙◌, sym, ap, subst}
use Rattle.bgp_attr.specs.Paths.{width_of}
use Rattle.xbgp_view.specs.Views.{Edited}
use Rattle.spk_native.specs.Filters.{as_received}
use Rattle.spk_native.specs.Values.{IsFaultless}
use Rattle.spk_routes.proofs.ReceiptLemmas.{faultless-as_received}
use Rattle.spk_routes.proofs.receipt.read_route.Goals as goal

pub widen_route-requires : goal.widen_route-requires
widen_route-requires c =
    let w = width_of c.args.wide in
    subst (IsFaultless w)
    (sym (ap (λ (e : Edited). e.route) c.drop_local_pref.ensures
    ∙ ap (λ (e : Edited). as_received c.args.peer.now e.route) c.read.ensures))
    (faultless-as_received w c.args.peer.now c.args.section.now c.requires.faultless)

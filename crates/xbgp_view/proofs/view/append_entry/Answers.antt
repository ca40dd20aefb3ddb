use Rattle.std.proofs.Common.{◌∙◌, ap, sym}
use Rattle.bgp_attr.specs.Routes.{kept_flags}
use Rattle.xbgp_view.proofs.ViewsLemmas.{IsOfRoute-attribute_at}
use Rattle.xbgp_view.proofs.view.append_entry.Goals as goal

pub append_attribute-requires-clause-kept : goal.append_attribute-requires-clause-kept
append_attribute-requires-clause-kept g c =
    ap kept_flags c.flags.ensures
    ∙ (IsOfRoute-attribute_at (g.R.RouteView.route c.args.view.now) c.args.code c.in-Some.held
    c.in-Some.ensures.shape c.in-Some.ensures.value).kept
    ∙ sym c.flags.ensures

use Rattle.std.proofs.Common.{sym, subst}
use Rattle.bgp_attr.specs.Routes.{route_of, IsRoute}
use Rattle.xbgp_view.specs.Sections.{kept_attr}
use Rattle.xbgp_view.proofs.ViewsLemmas.{IsOfRoute-attribute_at}
use Rattle.xbgp_view.proofs.overlay.OverlayRouteView.attribute.Goals as goal

pub of-requires : goal.of-requires
of-requires c =
    (IsOfRoute-attribute_at (route_of c.as_slice.result.now) c.args.code (kept_attr c.in_ok-attr.attr)
    (subst (λ s. IsRoute (route_of s)) (sym c.as_slice.ensures.value) c.self.invariant.0.route)
    c.in_ok-attr.ensures).short

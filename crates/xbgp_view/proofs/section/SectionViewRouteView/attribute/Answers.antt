use Rattle.xbgp_view.specs.Sections.{kept_attr}
use Rattle.xbgp_view.proofs.ViewsLemmas.{IsOfRoute-attribute_at}
use Rattle.xbgp_view.proofs.section.SectionViewRouteView.attribute.Goals as goal

pub of-requires : goal.of-requires
of-requires c =
    (IsOfRoute-attribute_at c.args.self.now c.args.code (kept_attr c.in_ok-attr.attr) c.in_ok-attr.ensures.shape
    c.in_ok-attr.ensures.value).short

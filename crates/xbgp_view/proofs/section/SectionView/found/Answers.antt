use Rattle.std.proofs.Common.{subst}
use Rattle.bgp_attr.specs.Routes.{IsRoute}
use Rattle.xbgp_view.proofs.section.SectionView.found.Goals as goal

pub returns-clause-shape : goal.returns-clause-shape
returns-clause-shape c = subst IsRoute c.self.view_is c.self.invariant

pub returns-clause-value : goal.returns-clause-value
returns-clause-value c = rw (← c.self.view_is) c.attr_of.ensures

use Rattle.std.proofs.Common.{◌≡◌, subst}
use Rattle.host_interned.specs.Ribs.{sources_by, sources_of, RibView}
use Rattle.host_interned.proofs.KeptLemmas.{sources_same}
use Rattle.host_interned.proofs.rib.Rib.chosen.Goals as goal

pub returns-clause-sources : goal.returns-clause-sources
returns-clause-sources c =
    subst (λ (v : RibView). sources_by v.chosen ≡ sources_of v.best) c.self.view_is
    (sources_same c.self.inside.records c.self.inside.best)

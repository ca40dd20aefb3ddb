use Rattle.std.proofs.Common.{subst}
use Rattle.std.specs.Prelude.{IfSome}
use Rattle.xbgp_maps.specs.Mappings.{Journalled, IsMapping, mapping_at}
use Rattle.host_interned.proofs.InternedLemmas.{rising_in}
use Rattle.host_interned.proofs.routing.Core.map_after.Goals as goal

pub returns-clause-rising : goal.returns-clause-rising
returns-clause-rising c =
    rising_in (mapping_at c.args.self.now.engine.engine.maps c.args.map)
    (subst (λ (j : Journalled). IfSome (mapping_at j.maps c.args.map) IsMapping) c.maps.ensures.maps
    c.entry_after.ensures.kept)

use Rattle.xbgp_maps.specs.Mappings.{Mapping}
use Rattle.xbgp_maps.specs.Trees.{entries_of}
use Rattle.xbgp_maps.proofs.TablesLemmas.{value_width}
use Rattle.xbgp_maps.proofs.table.Table.get.Goals as goal

pub returns-clause-width : goal.returns-clause-width
returns-clause-width c =
    let m : Mapping = record { shape = c.self.inside.shape; entries = entries_of c.self.inside.root } in
    rw (← c.self.view_is) (value_width (λ v. v.now) m c.args.key.now c.find.result c.self.invariant.0.kept c.find.ensures)

use Rattle.std.proofs.Common.{◌≡◌, length}
use Rattle.xbgp_maps.specs.Mappings.{Mapping}
use Rattle.xbgp_maps.specs.Trees.{entries_of}
use Rattle.xbgp_maps.proofs.TablesLemmas.{table_over_if}
use Rattle.xbgp_maps.proofs.table.Table.overwrite.Goals as goal

pub invariant_of-self : goal.invariant_of-self
invariant_of-self c =
    let m : Mapping = record { shape = c.self.inside.shape; entries = entries_of c.self.inside.root } in
    let width : length c.args.value.now ≡ m.shape.value = rw (← c.self.view_is) at c.requires in
    (rw c.overwrite.ensures.entries (table_over_if m _ _ c.args.key.now c.args.value.now c.overwrite.result c.self.invariant.0 c.overwrite.ensures.there width), c.overwrite.ensures.balanced)

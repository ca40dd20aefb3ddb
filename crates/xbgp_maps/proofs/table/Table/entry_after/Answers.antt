use Rattle.std.proofs.Common.{Some}
use Rattle.xbgp_maps.specs.Mappings.{Mapping}
use Rattle.xbgp_maps.specs.Trees.{entries_of}
use Rattle.xbgp_maps.proofs.TablesLemmas.{entry_widths}
use Rattle.xbgp_maps.proofs.table.Table.entry_after.Goals as goal

pub returns-in-Some-clause-widths : goal.returns-in-Some-clause-widths
returns-in-Some-clause-widths c =
    let m : Mapping = record { shape = c.self.inside.shape; entries = entries_of c.self.inside.root } in
    rw (← c.self.view_is) (entry_widths (λ e. (e.0.now, e.1.now)) m (Some c.in-Some.key.now) c.first_after.result c.self.invariant.0.kept c.first_after.ensures)

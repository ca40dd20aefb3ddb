use Rattle.std.proofs.lemmas.List.{length-map}
use Rattle.xbgp_maps.proofs.TablesLemmas.{table_empty}
use Rattle.xbgp_maps.proofs.table.Table.make.Goals as goal

pub invariant_of-result : goal.invariant_of-result
invariant_of-result c =
    let made = c.in_ok-blanks.ensures in
    (table_empty c.args.shape _ _ (simp length-map made.count) made.capacity made.blank, tt)

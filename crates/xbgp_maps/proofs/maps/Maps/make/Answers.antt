use Rattle.xbgp_maps.proofs.JournalsLemmas.{undoable_empty}
use Rattle.xbgp_maps.proofs.maps.Maps.make.Goals as goal

pub invariant_of-result : goal.invariant_of-result
invariant_of-result c = undoable_empty _ _ c.args.shapes.now c.requires c.in_ok-make.ensures c.in_ok-tables_of.ensures

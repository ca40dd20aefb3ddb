use Rattle.std.proofs.lemmas.Result.{err_from_is_err_and}
use Rattle.xbgp_manifest.specs.Manifests.{map_fields}
use Rattle.xbgp_manifest.proofs.maps.map_fields.Goals as goal

pub returns-in_err-table : goal.returns-in_err-table
unfolding map_fields
returns-in_err-table c = let p = err_from_is_err_and c.from_residual.result c.from_residual.ensures.1 in rw (p.1, p.2) (rw (← c.new-at.ensures, ← c.in_err-table.ensures))

pub returns-in_err-name : goal.returns-in_err-name
unfolding map_fields
returns-in_err-name c = let p = err_from_is_err_and c.from_residual-in_err-name.result c.from_residual-in_err-name.ensures.1 in rw (p.1, p.2) (rw (← c.new-at.ensures, ← c.in_ok-table.ensures, ← c.in_err-name.ensures))

pub returns-in_err-shape : goal.returns-in_err-shape
unfolding map_fields
returns-in_err-shape c = let p = err_from_is_err_and c.from_residual-in_err-shape.result c.from_residual-in_err-shape.ensures.1 in rw (p.1, p.2) (rw (← c.new-at.ensures, ← c.in_ok-table.ensures, ← c.in_ok-name.ensures, ← c.in_err-shape.ensures))

pub returns : goal.returns
unfolding map_fields
returns c = rw (← c.new-at.ensures, ← c.in_ok-table.ensures, ← c.in_ok-name.ensures, ← c.in_ok-shape.ensures)

use Rattle.std.proofs.Common.{◌≡◌, ◌++◌, drop}
use Rattle.xbgp_maps.specs.Mappings.{empty_maps}
use Rattle.xbgp_maps.proofs.maps.tables_of.Given as goal

-- the shapes that are left finish the tables
abbrev pub invariant-shapes : goal.invariant-shapes
invariant-shapes l = l.tables.items ++ empty_maps (drop l.shape-index l.shapes) ≡ empty_maps l.shapes

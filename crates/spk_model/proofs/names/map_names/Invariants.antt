use Rattle.std.proofs.Common.{◌≡◌, map, take}
use Rattle.std.specs.Prelude.{string_bytes}
use Rattle.spk_model.specs.Names.{map_names_of}
use Rattle.spk_model.proofs.names.map_names.Given as goal

-- the names of the maps so far
abbrev pub invariant-maps : goal.invariant-maps
invariant-maps l = map string_bytes l.names.items ≡ map_names_of (take l.i l.maps)

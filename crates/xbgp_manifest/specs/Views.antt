-- (for the private readers of tables) What tables say, without their texts' addresses.
use Rattle.xbgp_manifest.specs.declared.entries.MapEntry.{MapEntry}
use Rattle.xbgp_manifest.specs.declared.entries.ProgramEntry.{ProgramEntry}
use Rattle.xbgp_manifest.specs.declared.maps.MapFields.{MapFields}
use Rattle.xbgp_manifest.specs.declared.programs.ProgramFields.{ProgramFields}

-- a map
abbrev pub map_view : MapFields → MapEntry
map_view f = record { name = f.name.now; shape = f.shape }

-- a program, with its code as it is written
abbrev pub program_view : ProgramFields → ProgramEntry
program_view f = record { name = f.name.now; point = f.point; fuel = f.fuel; code = f.octets.items }

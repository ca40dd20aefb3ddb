use Rattle.std.proofs.Common.{◌≡◌, map, take}
use Rattle.spk_model.specs.Names.{program_names_of, program_view}
use Rattle.spk_model.proofs.names.program_names.Given as goal

-- the names of the programs so far
abbrev pub invariant-programs : goal.invariant-programs
invariant-programs l = map program_view l.names.items ≡ program_names_of (take l.i l.programs)

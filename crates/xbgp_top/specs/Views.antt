-- A command, an input and a text without their addresses in memory.
use Rattle.std.specs.Prelude.{ℕ, List, Result, Ok, Err, Vec}
use Rattle.std.specs.declared.alloc.Global.{Global}
use Rattle.xb_values.specs.Buffers.{Buffer}
use Rattle.xbgp_top.specs.declared.command.Command as lent
use Rattle.xbgp_top.specs.declared.command.Command.TheVariants.{File, Check, Replay, Work}
use Rattle.xbgp_top.specs.declared.status.Status.{Status}
use Rattle.xbgp_top.specs.Commands.{Command, on_file, check, replay, work}

-- a command with the octets of its words
abbrev pub command_view : lent.Command → Command
command_view (File job name) = on_file job name.now
command_view (Check config manifest) = check config.now manifest.now
command_view (Replay hosts config manifest log) = replay hosts config.now manifest.now log.now
command_view (Work number count host) = work number count host

-- the octets that were read, or the status instead
abbrev pub octets_view : Result (Vec ℕ Global) Status → Result (List ℕ) Status
octets_view (Ok octets) = Ok octets.items
octets_view (Err status) = Err status

-- the text that was made, or the status instead
abbrev pub text_view : Result Buffer Status → Result (List ℕ) Status
text_view (Ok text) = Ok text.octets
text_view (Err status) = Err status

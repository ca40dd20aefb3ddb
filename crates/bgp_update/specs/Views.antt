-- Messages and the steps of walkers, without their place in memory.
use Rattle.std.specs.Prelude.{ℕ, Result, Ok, Err}
use Rattle.bgp_update.specs.declared.messages.Msg.{Msg}
use Rattle.bgp_update.specs.declared.prefixes.BadPrefix.{BadPrefix}
use Rattle.bgp_update.specs.Walks.{FoundMessage}
use Rattle.xb_values.specs.Prefixes.{Prefix}

-- a message
abbrev pub message_view : Msg → FoundMessage
message_view m = record { at = m.at; kind = m.kind; body = m.body.now }

-- a step over messages: a message, or the offset of an error
abbrev pub message_step_view : Result Msg ℕ → Result FoundMessage ℕ
message_step_view (Ok m) = Ok (message_view m)
message_step_view (Err at) = Err at

-- a step over prefixes: a prefix, or an error
abbrev pub prefix_step_view : Result Prefix BadPrefix → Result Prefix (Unit {0})
prefix_step_view (Ok p) = Ok p
prefix_step_view (Err bad) = Err tt

-- Events as values (this project's own).
use Rattle.std.specs.Prelude.{ℕ, List}

-- one thing that one actor does: the operator, a peer's transport, or the clock
pub data Event : Type 0 where
  start : ℕ → Event
  stop : ℕ → Event
  up : ℕ → Event
  down : ℕ → Event
  octets : ℕ → List ℕ → Event
  time : ℕ → Event
  room : ℕ → ℕ → Event
  drain : ℕ → Event
  rescan : Event

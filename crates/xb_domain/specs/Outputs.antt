-- Outputs of a speaker as values (this project's own).
use Rattle.std.specs.Prelude.{ℕ, List}

-- what the speaker gives: a session came up or went down, or octets left for a peer
pub data Output : Type 0 where
  came_up : ℕ → Output
  went_down : ℕ → Output
  sent : ℕ → List ℕ → Output

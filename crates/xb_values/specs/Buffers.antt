-- Octets up to a capacity, and what it is to append to them (this project's own).
use Rattle.std.specs.Prelude.{◌≡◌, ◌↔◌, ◌≤◌, ℕ, ◌+◌, List, ◌++◌, length, Bool, IsTrue, MatchBool}

-- the octets so far, and how many there may be
pub record Buffer : Type 0 where
  pub octets : List ℕ
  pub capacity : ℕ

-- a text is appended exactly if it fits, and else nothing changes
pub record Appends (done : Bool) (old new : Buffer) (text : List ℕ) : Type 0 where
  pub fits : IsTrue done ↔ (length old.octets + length text ≤ old.capacity)
  pub result : MatchBool done (new ≡ record old { octets = old.octets ++ text }) (new ≡ old)

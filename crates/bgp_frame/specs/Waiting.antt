-- What is seen of the octets of a stream that came in pieces.
use Rattle.std.specs.Prelude.{◌≤◌, ◌+◌, ℕ, List, length}
use Rattle.xb_wire.specs.declared.numbers.TheConstants.{MAX_BODY}
use Rattle.bgp_frame.specs.declared.frames.TheConstants.{MAX_WAITING, ROOM}

-- the octets that wait, and the body of the message that was removed last
pub record Waiting : Type 0 where
  pub waits : List ℕ
  pub body : List ℕ

-- (for the private fields of `Frames`) a buffer with the last body from one offset on, and what waits from a later one
-- to the end
pub record IsKept (octets : List ℕ) (body start capacity : ℕ) : Type 0 where
  pub order : body ≤ start
  pub inside : start ≤ length octets
  pub short : start ≤ body + MAX_BODY
  pub few : length octets ≤ start + MAX_WAITING
  pub fits : length octets ≤ ROOM
  pub room : ROOM ≤ capacity

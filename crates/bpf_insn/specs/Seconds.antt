-- The loader's table of second slots (for the loops of `find_second_slots` and `first_slot_fault`).
use Rattle.std.specs.Prelude.{◌≡◌, ℕ, ◌<◌, Bool, List, length, slice_index_or}
use Rattle.bpf_insn.specs.Loading.{is_second}

-- the table says of each of the first n slots whether it is a second slot
pub record AreSeconds (code : List ℕ) (n : ℕ) (seconds : List Bool) : Type 0 where
  pub size : length seconds ≡ n
  pub each : (k : ℕ) (d : Bool) → k < n → slice_index_or seconds k d ≡ is_second code k

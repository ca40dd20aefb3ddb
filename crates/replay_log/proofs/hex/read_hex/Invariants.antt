use Rattle.std.proofs.Common.{◌≡◌, ◌+◌, ◌*◌, length}
use Rattle.xb_values.specs.Readers.{read_hex}
use Rattle.replay_log.proofs.HexLemmas.{append_some}
use Rattle.replay_log.proofs.hex.read_hex.Given as goal

-- the octets so far with those of the digits that are left are all, and there is room for them
abbrev pub invariant-pairs : goal.invariant-pairs
invariant-pairs l = record {
  left : append_some l.octets.octets (read_hex l.digits) ≡ read_hex l.text;
  size : 2 * length l.octets.octets + length l.digits ≡ length l.text;
  capacity : l.octets.capacity ≡ l.fn.octets.capacity;
}

abbrev pub decreases-pairs : goal.decreases-pairs
decreases-pairs l = length l.digits

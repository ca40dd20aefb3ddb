use Rattle.std.proofs.Common.{◌≡◌, ◌+◌, ◌*◌, length}
use Rattle.xb_values.specs.Readers.{read_hex}
use Rattle.replay_log.proofs.HexLemmas.{append_some}
use Rattle.replay_log.proofs.hex.append_fours.Given as goal

-- the octets so far with those of the text that is left are all, and there is room for them
abbrev pub invariant-fours : goal.invariant-fours
invariant-fours l = record {
  left : append_some l.octets.octets (read_hex l.digits) ≡ append_some l.fn.octets.octets (read_hex l.text);
  size : 2 * length l.octets.octets + length l.digits ≡ 2 * length l.fn.octets.octets + length l.text;
  capacity : l.octets.capacity ≡ l.fn.octets.capacity;
}

abbrev pub decreases-fours : goal.decreases-fours
decreases-fours l = length l.digits

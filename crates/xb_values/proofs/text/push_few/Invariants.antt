use Rattle.std.proofs.Common.{◌≡◌, ◌+◌, ◌-◌, ◌*◌, ◌≤◌, ◌++◌, length, flat_map, drop}
use Rattle.xb_values.specs.Texts.{hex_octet}
use Rattle.xb_values.proofs.text.push_few.Given as goal

-- what is appended so far and the digits of the octets that are left make the whole
abbrev pub invariant-loop-byte : goal.invariant-loop-byte
invariant-loop-byte l = record {
  octets : l.out.octets ++ flat_map hex_octet (drop l.byte-index l.bytes) ≡ l.fn.out.octets
      ++ flat_map hex_octet l.bytes;
  capacity : l.out.capacity ≡ l.fn.out.capacity;
  fits : length l.out.octets + 2 * (length l.bytes - l.byte-index) ≤ l.out.capacity;
}

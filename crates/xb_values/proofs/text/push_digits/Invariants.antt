use Rattle.std.proofs.Common.{◌≡◌, ◌+◌, ◌*◌, ◌≤◌, ◌++◌, length, flat_map}
use Rattle.xb_values.specs.Texts.{hex_octet}
use Rattle.xb_values.proofs.text.push_digits.Given as goal

-- what is appended so far and the digits of the octets that are left make the whole
abbrev pub invariant-eights : goal.invariant-eights
invariant-eights l = record {
  octets : l.out.octets ++ flat_map hex_octet l.rest ≡ l.fn.out.octets ++ flat_map hex_octet l.fn.bytes;
  capacity : l.out.capacity ≡ l.fn.out.capacity;
  fits : length l.out.octets + 2 * length l.rest ≤ l.out.capacity;
}

abbrev pub decreases-eights : goal.decreases-eights
decreases-eights l = length l.rest

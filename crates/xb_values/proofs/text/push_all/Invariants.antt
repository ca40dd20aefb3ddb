use Rattle.std.proofs.Common.{◌≡◌, ◌+◌, ◌≤◌, ◌++◌, length, drop}
use Rattle.xb_values.specs.Parts.{joined}
use Rattle.xb_values.proofs.text.push_all.Given as goal

-- the room that is left, with the parts that are left, is the room at first with all parts
abbrev pub invariant-loop-part : goal.invariant-loop-part
invariant-loop-part l = record {
  left : l.room + length (joined l.parts) ≡ l.initial.room + length (joined (drop l.part-index l.parts));
}

-- what is appended so far and the parts that are left make the whole
abbrev pub invariant-loop-piece : goal.invariant-loop-piece
invariant-loop-piece l = record {
  octets : l.out.octets ++ joined (drop l.piece-index l.parts) ≡ l.fn.out.octets ++ joined l.parts;
  capacity : l.out.capacity ≡ l.fn.out.capacity;
  fits : length l.out.octets + length (joined (drop l.piece-index l.parts)) ≤ l.out.capacity;
}

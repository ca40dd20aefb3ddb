-- An UPDATE that is being packed (RFC 4271, section 4.3).
use Rattle.std.specs.Prelude.{◌≡◌, ℕ, ◌+◌, ◌-◌, ◌≤◌, Bool, true, false, List, [], ◌∷◌, ◌++◌, length, replicate}
use Rattle.std.specs.Prelude.{slice_index, slice_range, if◌then◌else◌}
use Rattle.xb_words.specs.Octets.{two_octets}
use Rattle.xb_values.specs.Buffers.{Buffer}
use Rattle.xb_values.specs.Prefixes.{Prefix, prefix_octets}
use Rattle.xb_wire.specs.Messages.{Update, update_message}
use Rattle.xb_wire.specs.declared.numbers.TheConstants.{MARKER, HEADER, EMPTY_UPDATE, MAX_MESSAGE, UPDATE}
use Rattle.bgp_write.specs.Written.{with_two}

-- what is packed so far: whether prefixes are withdrawn or announced, the section with which they are announced, and
-- the octets of the prefixes
pub record Packed : Type 0 where
  pub withdraws : Bool
  pub section : List ℕ
  pub prefixes : List ℕ

-- an UPDATE that withdraws, without prefixes yet
abbrev pub withdrawing : Packed
withdrawing = record { withdraws = true; section = []; prefixes = [] }

-- an UPDATE that announces with a section, without prefixes yet
abbrev pub announcing : List ℕ → Packed
announcing section = record { withdraws = false; section = section; prefixes = [] }

-- with one more prefix, after the others
abbrev pub with_prefix : Packed → Prefix → Packed
with_prefix p prefix = record p { prefixes = p.prefixes ++ prefix_octets prefix }

-- the UPDATE of what is packed
abbrev pub packed_update : Packed → Update
packed_update p =
    if p.withdraws then record { withdrawn = p.prefixes; section = []; nlri = [] }
    else record { withdrawn = []; section = p.section; nlri = p.prefixes }

-- the message of what is packed
abbrev pub packed_message : Packed → List ℕ
packed_message p = update_message (packed_update p)

-- The definitions below are for the private fields of `Packer`: what its buffer holds while the lengths are not
-- written.

-- the header of an UPDATE, whose length field is a and b, and the length of its withdrawn prefixes, c and d
abbrev pub header_with : ℕ → ℕ → ℕ → ℕ → List ℕ
header_with a b c d = replicate MARKER 255 ++ a ∷ b ∷ UPDATE ∷ c ∷ d ∷ []

-- a section after its length
abbrev pub sized : List ℕ → List ℕ
sized section = two_octets (length section) ++ section

-- the octets after the prefixes: the length of an empty section after withdrawn ones, nothing after announced ones
abbrev pub tail_of : Bool → List ℕ
tail_of withdraws = if withdraws then 0 ∷ 0 ∷ [] else []

-- the section in octets whose prefixes begin at `start`
abbrev pub section_in : Bool → ℕ → List ℕ → List ℕ
section_in withdraws start octets = if withdraws then [] else slice_range octets EMPTY_UPDATE start

-- the octets before the prefixes; the lengths that prefixes change may be any
abbrev pub front_in : Bool → ℕ → List ℕ → List ℕ
front_in withdraws start octets =
    let high = slice_index octets MARKER in
    let low = slice_index octets (MARKER + 1) in
    if withdraws then header_with high low (slice_index octets HEADER) (slice_index octets (HEADER + 1))
    else header_with high low 0 0 ++ sized (slice_range octets EMPTY_UPDATE start)

-- the octets of the prefixes
abbrev pub prefixes_in : Bool → ℕ → List ℕ → List ℕ
prefixes_in withdraws start octets = slice_range octets start (length octets - length (tail_of withdraws))

-- what is packed in octets whose prefixes begin at `start`
abbrev pub packed_in : Bool → ℕ → List ℕ → Packed
packed_in withdraws start octets = record {
  withdraws = withdraws;
  section = section_in withdraws start octets;
  prefixes = prefixes_in withdraws start octets;
}

-- a buffer in which an UPDATE is packed, whole except for its lengths
pub record IsPacking (withdraws : Bool) (start : ℕ) (out : Buffer) : Type 0 where
  pub room : MAX_MESSAGE ≤ out.capacity
  pub short : length out.octets ≤ MAX_MESSAGE
  pub place : start ≡ length (front_in withdraws start out.octets)
  pub whole :
      out.octets ≡ front_in withdraws start out.octets ++ prefixes_in withdraws start out.octets ++ tail_of withdraws

-- the octets with their lengths written
abbrev pub sealed : Bool → List ℕ → List ℕ
sealed withdraws octets =
    let whole = with_two octets MARKER (length octets) in
    if withdraws then with_two whole HEADER (length octets - EMPTY_UPDATE) else whole

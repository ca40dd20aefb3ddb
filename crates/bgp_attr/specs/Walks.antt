-- What a walk over the attributes of a section returns (RFC 4271, section 4.3), as a list of what is still to come.
use Rattle.std.specs.Prelude.{◌≡◌, ℕ, true, List, [], ◌∷◌, ◌++◌, length, take, drop, map, None, Result, Ok, Err}
use Rattle.std.specs.List.{AllByRecursion}
use Rattle.xb_words.specs.Cut.{with_offsets, walk_from}
use Rattle.bgp_attr.specs.declared.attrs.Overrun.{Overrun}
use Rattle.bgp_attr.specs.Attributes.{attributes, attribute_size, is_whole, attr_flags, attr_code, attr_value}

-- an attribute with the offset at which it begins
pub record FoundAttr : Type 0 where
  pub at : ℕ
  pub flags : ℕ
  pub code : ℕ
  pub value : List ℕ
  pub raw : List ℕ

-- the attribute that has these octets and begins at an offset
abbrev pub found_attr : ℕ → List ℕ → FoundAttr
found_attr at raw = record { at = at; flags = attr_flags raw; code = attr_code raw; value = attr_value raw; raw = raw }

-- the attribute that begins at an offset runs past the end
abbrev pub overrun : ℕ → Overrun
overrun at = record { at = at }

-- the attributes of a section that starts at an offset, then an overrun if octets remain
abbrev pub attributes_from : ℕ → List ℕ → List (Result FoundAttr Overrun)
attributes_from at section = walk_from attribute_size found_attr overrun at section

-- the octets of all attributes that a walk returns, joined
abbrev pub raws : List (Result FoundAttr Overrun) → List ℕ
raws [] = []
raws (Ok a ∷ steps) = a.raw ++ raws steps
raws (Err o ∷ steps) = raws steps

-- the offset at which a walk over `len` octets ends: that of the overrun, or else `len`
abbrev pub walk_end : ℕ → List (Result FoundAttr Overrun) → ℕ
walk_end len [] = len
walk_end len (Ok a ∷ steps) = walk_end len steps
walk_end len (Err o ∷ steps) = o.at

-- the law: the attributes of a section, joined, are its octets up to an overrun
abbrev pub attributes_join : Type 0
attributes_join =
    (section : List ℕ)
    → let steps = attributes_from 0 section in raws steps ≡ take (walk_end (length section) steps) section

-- the section has the attribute's octets at its offset, and no whole attribute at the offset of an overrun
abbrev pub MatchesSection : List ℕ → Result FoundAttr Overrun → Type 0
MatchesSection section (Ok a) = take (length a.raw) (drop a.at section) ≡ a.raw
MatchesSection section (Err o) = attribute_size (drop o.at section) ≡ None

-- the law: each step of a walk matches the section at its offset
abbrev pub attributes_match : Type 0
attributes_match = (section : List ℕ) → AllByRecursion (MatchesSection section) (attributes_from 0 section)

-- the law: the steps of a walk over a section without overrun are its attributes, each with its offset
abbrev pub attributes_walked : Type 0
attributes_walked =
    (section : List ℕ) (at : ℕ) → is_whole section ≡ true
    → attributes_from at section ≡ map (λ p. Ok (found_attr p.0 p.1)) (with_offsets at (attributes section))

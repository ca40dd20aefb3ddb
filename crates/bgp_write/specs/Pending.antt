-- What waits to be told to a peer, and the next message that tells it (RFC 4271, section 4.3, for what an UPDATE may
-- hold; how prefixes are packed into messages is this project's own).
use Rattle.std.specs.Prelude.{ℕ, ◌-◌, Bool, true, false, List, [], ◌∷◌, ◌++◌, length, flat_map, filter, take_while}
use Rattle.std.specs.Prelude.{Option, Some, None, is_none, not, nat_lt, if◌then◌else◌, fold}
use Rattle.std.specs.Map.{keys_of}
use Rattle.std.specs.Str.{bytes_eq}
use Rattle.xb_words.specs.Table.{value_at, with_value, without, set_of}
use Rattle.xb_domain.specs.declared.output.Packing.{Packing}
use Rattle.xb_domain.specs.declared.output.Packing.TheVariants.{Grouped, Sorted}
use Rattle.xb_values.specs.Prefixes.{Prefix, Sections, prefix_cmp, prefix_octets}
use Rattle.xb_wire.specs.Messages.{update_message}
use Rattle.xb_wire.specs.declared.numbers.TheConstants.{EMPTY_UPDATE, MAX_MESSAGE}

-- whether two sections, each of which may be absent, are the same
abbrev pub same_section : Option (List ℕ) → Option (List ℕ) → Bool
same_section None None = true
same_section None (Some t) = false
same_section (Some s) None = false
same_section (Some s) (Some t) = bytes_eq s t

-- the prefixes at which what is advertised and what was told differ, by rising order
unfoldable pub pending : Sections → Sections → List Prefix
pending adv told =
    filter (λ p. not (same_section (value_at prefix_cmp adv p) (value_at prefix_cmp told p)))
    (set_of prefix_cmp (keys_of adv ++ keys_of told))

-- the prefixes before the first whose octets do not fit in a room
abbrev pub fitting : ℕ → List Prefix → List Prefix
fitting room [] = []
fitting room (p ∷ ps) =
    let size = length (prefix_octets p) in
    if nat_lt room size then [] else p ∷ fitting (room - size) ps

-- a message, and what has been told when it is formed
pub record Formed : Type 0 where
  pub message : List ℕ
  pub told : Sections

-- the withdrawal of prefixes, as far as they fit in a message
abbrev pub withdrawal : Sections → List Prefix → Formed
withdrawal told gone =
    let ps = fitting (MAX_MESSAGE - EMPTY_UPDATE) gone in
    record {
      message = update_message (record { withdrawn = flat_map prefix_octets ps; section = []; nlri = [] });
      told = fold (without prefix_cmp) told ps;
    }

-- the announcement of prefixes with one section, as far as they fit in a message
abbrev pub announcement : Sections → List ℕ → List Prefix → Formed
announcement told section fresh =
    let ps = fitting (MAX_MESSAGE - EMPTY_UPDATE - length section) fresh in
    record {
      message = update_message (record { withdrawn = []; section = section; nlri = flat_map prefix_octets ps });
      told = fold (λ t p. with_value prefix_cmp t p section) told ps;
    }

-- whether a prefix is advertised with a section
abbrev pub has_section : Sections → List ℕ → Prefix → Bool
has_section adv s p = same_section (value_at prefix_cmp adv p) (Some s)

-- of pending prefixes, of which the first has the section s, those that go with it: all that have it, or those before
-- the first that has not
abbrev pub together : Packing → Sections → List ℕ → List Prefix → List Prefix
together Grouped adv s ps = filter (has_section adv s) ps
together Sorted adv s ps = take_while (has_section adv s) ps

-- the section with which a prefix is advertised
abbrev pub section_of : Sections → Prefix → List ℕ
section_of adv p = elim (value_at prefix_cmp adv p) [ None ↦ [] | Some s ↦ s ]

-- the next message if all pending prefixes are advertised
abbrev pub announced : Packing → Sections → Sections → List Prefix → Option Formed
announced rule adv told [] = None
announced rule adv told (x ∷ ps) =
    Some (announcement told (section_of adv x) (together rule adv (section_of adv x) (x ∷ ps)))

-- the next message, by the pending prefixes and those among them that are not advertised
abbrev pub withdrawn_first : Packing → Sections → Sections → List Prefix → List Prefix → Option Formed
withdrawn_first rule adv told ps [] = announced rule adv told ps
withdrawn_first rule adv told ps (x ∷ gone) = Some (withdrawal told (x ∷ gone))

-- the next message: withdrawals first; None if nothing is pending
unfoldable pub form : Packing → Sections → Sections → Option Formed
form rule adv told =
    withdrawn_first rule adv told (pending adv told)
    (filter (λ p. is_none (value_at prefix_cmp adv p)) (pending adv told))

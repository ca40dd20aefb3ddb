-- What is next in a walk over messages, and over prefixes, and what all steps are together.
use Rattle.std.proofs.Common.{◌≡◌, refl, ap, ◌∙◌, ℕ, ◌+◌, ◌<◌, true, List, [], ◌∷◌, length, take, drop, map, Some, None}
use Rattle.std.proofs.Common.{Ok, Err}
use Rattle.std.specs.Prelude.{◌==◌}
use Rattle.std.proofs.Math.Dec.{eqb-suc-zero}
use Rattle.xb_words.specs.Cut.{walk, walk_from, with_offsets, cut}
use Rattle.xb_words.proofs.CutLemmas.{walk_from-some, walk_from-error, walk_from-nil, walk_from-anywhere}
use Rattle.xb_wire.specs.Messages.{message_size, split}
use Rattle.xb_values.specs.Prefixes.{Prefix, prefix_size, prefix_at, prefixes, are_prefixes}
use Rattle.xb_wire.proofs.MessageLemmas.{message_size_is_size}
use Rattle.xb_values.proofs.PrefixLemmas.{prefix_size_is_size}
use Rattle.bgp_update.specs.Walks.{found_message, messages_from, prefixes_from}

-- a whole message at the front is the next step
pub messages_some : (at : ℕ) (s : List ℕ) (n : ℕ) → message_size s ≡ Some n → messages_from at s ≡ Ok (found_message at (take n s)) ∷ messages_from (at + n) (drop n s)
messages_some = walk_from-some message_size message_size_is_size found_message (λ i. i)

-- octets that begin with no message are an error
pub messages_error : (at : ℕ) (s : List ℕ) → message_size s ≡ None → 0 < length s → messages_from at s ≡ Err at ∷ []
messages_error = walk_from-error message_size message_size_is_size found_message (λ i. i)

-- no octets give no step
pub messages_nil : (at : ℕ) (s : List ℕ) → length s ≡ 0 → messages_from at s ≡ []
messages_nil = walk_from-nil message_size message_size_is_size found_message (λ i. i)

-- the next step over messages, whatever is at the front
pub ruleset message_steps = (message_size_is_size, messages_some, messages_error, messages_nil)

-- a whole prefix at the front is the next step
pub prefixes_some : (s : List ℕ) (n : ℕ) → prefix_size s ≡ Some n → prefixes_from s ≡ Ok (prefix_at (take n s)) ∷ prefixes_from (drop n s)
prefixes_some s n h =
    walk_from-some prefix_size prefix_size_is_size (λ i. prefix_at) (λ i. tt) 0 s n h
    ∙ ap (λ r. Ok (prefix_at (take n s)) ∷ r) (walk_from-anywhere prefix_at tt prefix_size (0 + n) 0 (drop n s))

-- octets that begin with no prefix are an error
pub prefixes_error : (s : List ℕ) → prefix_size s ≡ None → 0 < length s → prefixes_from s ≡ Err tt ∷ []
prefixes_error = walk_from-error prefix_size prefix_size_is_size (λ i. prefix_at) (λ i. tt) 0

-- no octets give no step
pub prefixes_nil : (s : List ℕ) → length s ≡ 0 → prefixes_from s ≡ []
prefixes_nil = walk_from-nil prefix_size prefix_size_is_size (λ i. prefix_at) (λ i. tt) 0

-- the next step over prefixes, whatever is at the front
pub ruleset prefix_steps = (prefix_size_is_size, prefixes_some, prefixes_error, prefixes_nil)

-- if no octets are left, the steps are the messages
messages_walked : (at : ℕ) (items : List (List ℕ)) → walk found_message (λ i. i) at items [] ≡ map (λ m. Ok (found_message m.0 m.1)) (with_offsets at items)
messages_walked at [] = refl
messages_walked at (x ∷ items) = ap (λ r. Ok (found_message at x) ∷ r) (messages_walked (at + length x) items)

pub messages_from-whole : (s : List ℕ) → (split s).rest ≡ [] → messages_from 0 s ≡ map (λ m. Ok (found_message m.0 m.1)) (with_offsets 0 (split s).items)
unfolding walk_from
messages_from-whole s none = ap (walk found_message (λ i. i) 0 (split s).items) none ∙ messages_walked 0 (split s).items

-- if no octets are left, the steps are the prefixes
prefixes_walked : (at : ℕ) (items : List (List ℕ)) → walk {A = Prefix} {E = Unit {0}} (λ i. prefix_at) (λ i. tt) at items [] ≡ map (λ p. Ok p) (map prefix_at items)
prefixes_walked at [] = refl
prefixes_walked at (x ∷ items) = ap (λ r. Ok (prefix_at x) ∷ r) (prefixes_walked (at + length x) items)

no_rest : (rest : List ℕ) → (length rest == 0) ≡ true → rest ≡ []
no_rest [] none = refl
no_rest (b ∷ rest) none = absurd (cc (none, eqb-suc-zero (length rest)))

pub prefixes_from-whole : (s : List ℕ) → are_prefixes s ≡ true → prefixes_from s ≡ map (λ p. Ok p) (prefixes s)
unfolding walk_from
prefixes_from-whole s whole =
    ap (walk {A = Prefix} {E = Unit {0}} (λ i. prefix_at) (λ i. tt) 0 (cut prefix_size s).items) (no_rest (cut prefix_size s).rest whole) ∙ prefixes_walked 0 (cut prefix_size s).items

-- The prefixes that octets write are prefixes.
use Rattle.std.proofs.Common.{◌≡◌, refl, ap, ℕ, zero, suc, ◌+◌, ◌<◌, ◌≤◌, ◌^◌, ◌&&◌, inl, inr, arith}
use Rattle.std.proofs.Common.{List, [], ◌∷◌, Some, None, drop, length, map, nat_le, subst, take}
use Rattle.std.proofs.lemmas.Bool.{and_parts, cases_Bool, leb-true}
use Rattle.std.specs.Prelude.{slice_index}
use Rattle.std.specs.List.{AllByRecursion}
use Rattle.xb_words.specs.Cut.{cut, cut_turns}
use Rattle.xb_words.specs.Octets.{AreOctets, four_at}
use Rattle.xb_words.proofs.CutLemmas.{cut_by}
use Rattle.xb_values.specs.Prefixes.{IsPrefix, octets_for, prefix_at, prefix_size, prefixes}
use Rattle.xb_values.proofs.PrefixLemmas.{prefix_of_is_prefix}
use Rattle.xb_wire.specs.Messages.{update_parts}
use Rattle.bgp_path.proofs.NumbersLemmas.{AreOctets-drop, get_or-AreOctets}
use Rattle.bpf_mem.proofs.OffsetLemmas.{AreOctets-take}

four_at-word : (s : List ℕ) → AreOctets s → four_at s 1 < 2 ^ 32
four_at-word s are =
    let a : slice_index s 1 < 256 = get_or-AreOctets s are 1 in
    let b : slice_index s 2 < 256 = get_or-AreOctets s are 2 in
    let c : slice_index s 3 < 256 = get_or-AreOctets s are 3 in
    let d : slice_index s 4 < 256 = get_or-AreOctets s are 4 in
    omega (arith, a, b, c, d)

-- the first of the octets that are taken
first_taken : (k : ℕ) (len : ℕ) (rest : List ℕ) → slice_index (take (1 + k) (len ∷ rest)) 0 ≡ len
first_taken k len rest = ap (λ n. slice_index (take n (len ∷ rest)) 0) one
  where
    one : 1 + k ≡ suc k
    one = omega arith

front_is_prefix : (s : List ℕ) (n : ℕ) → AreOctets s → prefix_size s ≡ Some n → IsPrefix (prefix_at (take n s))
front_is_prefix [] n are e = absurd (cc e)
front_is_prefix (len ∷ rest) n are e =
    elim (cases_Bool (nat_le len 32 && nat_le (octets_for len) (length rest))) [
      | inr short ↦ let none : None ≡ Some n = rw short at e in absurd (cc none)
      | inl fits ↦
          let parts = and_parts (nat_le len 32) (nat_le (octets_for len) (length rest)) fits in
          let few : len ≤ 32 = leb-true len 32 parts.0 in
          let some : Some (1 + octets_for len) ≡ Some n = rw fits at e in
          let size : 1 + octets_for len ≡ n = cc some in
          let s = len ∷ rest in
          let first : slice_index (take n s) 0 ≡ len =
          subst (λ m. slice_index (take m s) 0 ≡ len) size (first_taken (octets_for len) len rest) in
          prefix_of_is_prefix (four_at (take n s) 1) (slice_index (take n s) 0)
          (four_at-word (take n s) (AreOctets-take n s are)) (omega (arith, first, few))
    ]

items_are_prefixes : (turns : ℕ) (s : List ℕ) → AreOctets s
    → AllByRecursion IsPrefix (map prefix_at (cut_turns prefix_size turns s).items)
items_are_prefixes zero s are = tt
items_are_prefixes (suc turns) s are =
    elim (prefix_size s) as (λ o.
    prefix_size s ≡ o → AllByRecursion IsPrefix (map prefix_at (cut_by prefix_size s turns o).items)) [
      | None ↦ λ e. tt
      | Some n ↦ λ e. (
        front_is_prefix s n are e,
        items_are_prefixes turns (drop n s) (AreOctets-drop n s are),
      )
    ] refl

pub prefixes_are_prefixes : (s : List ℕ) → AreOctets s → AllByRecursion IsPrefix (prefixes s)
unfolding cut
prefixes_are_prefixes s are = items_are_prefixes (length s) s are

-- so are those that an UPDATE withdraws
pub withdrawn_are_prefixes : (body : List ℕ) → AreOctets body
    → AllByRecursion IsPrefix (prefixes (update_parts body).withdrawn)
withdrawn_are_prefixes body are =
    prefixes_are_prefixes (update_parts body).withdrawn (AreOctets-take _ _ (AreOctets-drop 2 body are))

-- and those that it announces
pub announced_are_prefixes : (body : List ℕ) → AreOctets body
    → AllByRecursion IsPrefix (prefixes (update_parts body).nlri)
announced_are_prefixes body are = prefixes_are_prefixes (update_parts body).nlri (AreOctets-drop _ body are)

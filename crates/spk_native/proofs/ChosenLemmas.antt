-- The one rank that survives, and its index.
use Rattle.std.proofs.Common.{◌≡◌, refl, sym, ap, ◌∙◌, ℕ, ◌<◌, ◌≤◌, inl, List, unwrap_or, position, subst, [], ◌∷◌}
use Rattle.std.proofs.Common.{Bool, length, get_or, ◌==◌, arith}
use Rattle.std.proofs.lemmas.Bool.{lt-ltb}
use Rattle.std.specs.List.{list_any, position_or_len}
use Rattle.spk_native.specs.declared.decision.Rank.{Rank}
use Rattle.spk_native.specs.Decision.{left_of, survivors, survivor}
use Rattle.spk_native.specs.Laws.{AreApart}
use Rattle.spk_native.proofs.LeftLemmas.{first_mark, IsMarked-alone, first_mark-address}
use Rattle.spk_native.proofs.OrderLemmas.{IsIn, one_survives}

-- the index is that of the survivor
pub record IsChosen (ranks : List Rank) (i : ℕ) : Type 0 where
  pub index : i ≡ survivor ranks
  pub within : i < length ranks
  pub alone : (d : Rank) → survivors ranks ≡ get_or ranks i d ∷ []

pub one_survivor : (ranks : List Rank) → 1 ≤ length ranks → AreApart ranks
    → (best : Rank) × IsIn best ranks × (survivors ranks ≡ best ∷ [])
one_survivor [] h apart = absurd (omega arith)
one_survivor (r ∷ ranks) h apart = one_survives (r ∷ ranks) r (inl refl) apart

chosen_first : (ranks : List Rank) (left : List Bool) → 1 ≤ length ranks → AreApart ranks
    → left_of ranks left ≡ survivors ranks → IsChosen ranks (first_mark left) × (first_mark left < length left)
chosen_first ranks left h apart e =
    let best = one_survivor ranks h apart in
    let only = e ∙ best.2 in
    let at = IsMarked-alone ranks left best.0 only in (
      record {
        index = first_mark-address ranks left best.0 apart only
            ∙ ap (λ (left : List Rank). position_or_len (λ r. list_any (λ s. s.address == r.address) left) ranks)
            (sym best.2);
        within = at.within;
        alone = λ d. best.2 ∙ ap (λ r. r ∷ []) (sym (at.rank d));
      },
      at.marked,
    )

position-mark : (left : List Bool) → first_mark left < length left
    → unwrap_or (position (λ b. b) left) 0 ≡ first_mark left
position-mark left h = rw (lt-ltb (first_mark left) (length left) h) refl

-- if the survivors are left, the first mark is at the one
pub IsChosen-marked : (ranks : List Rank) (left : List Bool) → 1 ≤ length ranks → AreApart ranks
    → left_of ranks left ≡ survivors ranks → IsChosen ranks (unwrap_or (position (λ b. b) left) 0)
IsChosen-marked ranks left h apart e =
    let chosen = chosen_first ranks left h apart e in
    subst (λ (i : ℕ). IsChosen ranks i) (sym (position-mark left chosen.1)) chosen.0

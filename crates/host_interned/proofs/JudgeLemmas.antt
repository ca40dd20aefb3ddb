-- The parts of an UPDATE without fault.
use Rattle.std.proofs.Common.{◌≡◌, inl, inr, refl, ◌∙◌, ap, ℕ, Bool, true, false, List, Option, Some, None}
use Rattle.std.specs.Prelude.{not}
use Rattle.std.proofs.lemmas.Bool.{cases_Bool}
use Rattle.xb_words.specs.Optional.{or_else}
use Rattle.xb_wire.specs.Messages.{Notification, Update, lengths_fit, update_of, update_parts}
use Rattle.xb_values.specs.Prefixes.{are_prefixes}
use Rattle.bgp_check.specs.Judgement.{judge, judge_parts, refuse_if}

or_else_none : {A : Type 0} (a b : Option A) → or_else a b ≡ None → (a ≡ None) × (b ≡ None)
or_else_none None b e = (refl, e)
or_else_none (Some x) b e = absurd (cc e)

refuse_none : (b : Bool) (n : Notification) → refuse_if (not b) n ≡ None → b ≡ true
refuse_none true n e = refl
refuse_none false n e = absurd (cc e)

-- the lengths fit, and the parts are those of the definition
pub record AreParts (body : List ℕ) (u : Update) : Type 0 where
  pub parts : u ≡ update_parts body
  pub withdrawn : are_prefixes u.withdrawn ≡ true
  pub nlri : are_prefixes u.nlri ≡ true

pub AreParts-judge : (w : ℕ) (body : List ℕ) (u : Update) → judge w body ≡ None → Some u ≡ update_of body
    → AreParts body u
unfolding judge
AreParts-judge w body u e is = elim (cases_Bool (lengths_fit body)) [
  | inl fit ↦
      let judged : judge_parts w (update_parts body) ≡ None = rw fit at e in
      let some : Some u ≡ Some (update_parts body) = rw fit at is in
      let same : u ≡ update_parts body = cc some in
      let mine : judge_parts w u ≡ None = ap (judge_parts w) same ∙ judged in
      let first = or_else_none _ _ mine in
      let second = or_else_none _ _ first.1 in
      let third = or_else_none _ _ second.1 in
      record {
        parts = same;
        withdrawn = refuse_none (are_prefixes u.withdrawn) _ first.0;
        nlri = refuse_none (are_prefixes u.nlri) _ third.0;
      }
  | inr not_fit ↦ let none : Some u ≡ None = rw not_fit at is in absurd (cc none)
]

-- an UPDATE without fault has parts
pub judge-none : (w : ℕ) (body : List ℕ) → judge w body ≡ None → None ≡ update_of body → ⊥
unfolding judge
judge-none w body e is = elim (cases_Bool (lengths_fit body)) [
  | inl fit ↦ let some : None ≡ Some (update_parts body) = rw fit at is in absurd (cc some)
  | inr not_fit ↦ let some = rw not_fit at e in absurd (cc some)
]

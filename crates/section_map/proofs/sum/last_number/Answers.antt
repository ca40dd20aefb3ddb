use Rattle.std.proofs.Common.{◌≡◌, ◌-◌, ◌<◌, List, [], ◌∷◌, ◌++◌, ℕ, length, drop, replicate, refl, ap, ◌∙◌, arith}
use Rattle.section_map.specs.Sums.{number_of}
use Rattle.section_map.specs.declared.sum.TheConstants.{WORD}
use Rattle.section_map.proofs.sum.last_number.Goals as goal

-- zeros after fewer than eight octets change nothing
number_of-zeros : (s : List ℕ) → length s < WORD → number_of (s ++ drop (length s) (replicate WORD 0)) ≡ number_of s
number_of-zeros [] short = refl
number_of-zeros (a ∷ []) short = refl
number_of-zeros (a ∷ b ∷ []) short = refl
number_of-zeros (a ∷ b ∷ c ∷ []) short = refl
number_of-zeros (a ∷ b ∷ c ∷ d ∷ []) short = refl
number_of-zeros (a ∷ b ∷ c ∷ d ∷ e ∷ []) short = refl
number_of-zeros (a ∷ b ∷ c ∷ d ∷ e ∷ f ∷ []) short = refl
number_of-zeros (a ∷ b ∷ c ∷ d ∷ e ∷ f ∷ g ∷ []) short = refl
number_of-zeros (a ∷ b ∷ c ∷ d ∷ e ∷ f ∷ g ∷ h ∷ more) short = omega (arith, short)

pub returns : goal.returns
returns c =
    let s = c.args.section.now in
    let short : length s < WORD = c.in_default.ensures.cases in
    let all : 0 ≡ length s - WORD = omega (arith, short) in
    c.from_be_bytes-2.ensures
    ∙ ap (λ front. number_of (front ++ drop (length s) (replicate WORD 0))) c.copy_from_slice.ensures.after
    ∙ number_of-zeros s short
    ∙ ap (λ n. number_of (drop n s)) all

-- Lemmas on the walk over a section: what is next, and the laws.
use Rattle.std.proofs.Common.{◌≡◌, refl, sym, ap, ◌∙◌, ℕ, ◌+◌, ◌<◌, List, [], ◌∷◌, ◌++◌, length, take, drop, map, Some}
use Rattle.std.proofs.Common.{None, append_assoc, arith}
use Rattle.std.proofs.lemmas.Bool.{eqb-true}
use Rattle.std.proofs.lemmas.List.{length-append, append-nil, take_at, drop_at}
use Rattle.std.proofs.Math.Seq.{take-length}
use Rattle.std.specs.Prelude.{Result, Ok, Err}
use Rattle.std.specs.List.{concat, AllByRecursion}
use Rattle.xb_words.specs.Cut.{cut, with_offsets, walk, walk_from}
use Rattle.xb_words.proofs.CutLemmas.{concat-cut, size-cut-rest}
use Rattle.xb_words.proofs.CutLemmas.{walk_from-some, walk_from-error, walk_from-nil}
use Rattle.bgp_attr.specs.declared.attrs.Overrun.{Overrun}
use Rattle.bgp_attr.specs.Attributes.{attribute_size}
use Rattle.bgp_attr.specs.Walks.{FoundAttr, found_attr, overrun, attributes_from, raws, walk_end, MatchesSection}
use Rattle.bgp_attr.specs.Walks.{attributes_join, attributes_match, attributes_walked}
use Rattle.bgp_attr.proofs.AttributesLemmas.{IsSize-attribute_size}

-- a whole attribute at the front is the next step
pub attributes_from-some : (at : ℕ) (s : List ℕ) (n : ℕ) → attribute_size s ≡ Some n → attributes_from at s ≡ Ok (found_attr at (take n s)) ∷ attributes_from (at + n) (drop n s)
attributes_from-some = walk_from-some attribute_size IsSize-attribute_size found_attr overrun

-- octets that begin with no whole attribute are an overrun, and the walk ends
pub attributes_from-overrun : (at : ℕ) (s : List ℕ) → attribute_size s ≡ None → 0 < length s → attributes_from at s ≡ Err (overrun at) ∷ []
attributes_from-overrun = walk_from-error attribute_size IsSize-attribute_size found_attr overrun

-- the walk over an empty section is over
pub attributes_from-nil : (at : ℕ) (s : List ℕ) → length s ≡ 0 → attributes_from at s ≡ []
attributes_from-nil = walk_from-nil attribute_size IsSize-attribute_size found_attr overrun

-- one step of the walk
pub ruleset walk_steps = (attributes_from-some, attributes_from-overrun, attributes_from-nil)

raws-walk : (at : ℕ) (xs : List (List ℕ)) (rest : List ℕ) → raws (walk found_attr overrun at xs rest) ≡ concat xs
raws-walk at [] [] = refl
raws-walk at [] (b ∷ rest) = refl
raws-walk at (x ∷ xs) rest = ap (λ t. x ++ t) (raws-walk (at + length x) xs rest)

-- what a section has before the end of a walk over its items, `at` octets being before them
take-walk_end : (s before : List ℕ) (xs : List (List ℕ)) (rest : List ℕ) (at : ℕ) → length before ≡ at → before ++ (concat xs ++ rest) ≡ s
    → take (walk_end (length s) (walk found_attr overrun at xs rest)) s ≡ before ++ concat xs
take-walk_end s before [] [] at here joined = take-length s ∙ sym joined
take-walk_end s before [] (b ∷ rest) at here joined =
    ap (take at) (sym joined) ∙ take_at before (b ∷ rest) at here ∙ sym (append-nil before)
take-walk_end s before (x ∷ xs) rest at here joined =
    let parts = append_assoc before x (concat xs ++ rest) ∙ ap (λ t. before ++ t) (sym (append_assoc x (concat xs) rest)) ∙ joined in
    take-walk_end s (before ++ x) xs rest (at + length x) (length-append before x ∙ ap (λ n. n + length x) here) parts ∙ append_assoc before x (concat xs)

-- the law `attributes_join`
pub attributes_join_holds : attributes_join
unfolding walk_from
attributes_join_holds section =
    let p = cut attribute_size section in
    raws-walk 0 p.items p.rest ∙ sym (take-walk_end section [] p.items p.rest 0 refl (concat-cut attribute_size section))

MatchesSection-walk : (s before : List ℕ) (xs : List (List ℕ)) (rest : List ℕ) (at : ℕ) → length before ≡ at → before ++ (concat xs ++ rest) ≡ s
    → attribute_size rest ≡ None → AllByRecursion (MatchesSection s) (walk found_attr overrun at xs rest)
MatchesSection-walk s before [] [] at here joined e = tt
MatchesSection-walk s before [] (b ∷ rest) at here joined e =
    (ap (λ d. attribute_size (drop at d)) (sym joined) ∙ ap attribute_size (drop_at before (b ∷ rest) at here) ∙ e, tt)
MatchesSection-walk s before (x ∷ xs) rest at here joined e =
    let more = concat xs ++ rest in
    let parts : before ++ (x ++ more) ≡ s = ap (λ t. before ++ t) (sym (append_assoc x (concat xs) rest)) ∙ joined in (
      ap (λ d. take (length x) (drop at d)) (sym parts) ∙ ap (take (length x)) (drop_at before (x ++ more) at here) ∙ take_at x more (length x) refl,
      MatchesSection-walk s (before ++ x) xs rest (at + length x) (length-append before x ∙ ap (λ n. n + length x) here) (append_assoc before x more ∙ parts) e,
    )

-- the law `attributes_match`
pub attributes_match_holds : attributes_match
unfolding walk_from
attributes_match_holds section =
    let p = cut attribute_size section in
    MatchesSection-walk section [] p.items p.rest 0 refl (concat-cut attribute_size section) (size-cut-rest attribute_size IsSize-attribute_size section)

walk-placed : (at : ℕ) (xs : List (List ℕ)) (rest : List ℕ) → length rest ≡ 0
    → walk found_attr overrun at xs rest ≡ map {B = Result FoundAttr Overrun} (λ p. Ok (found_attr p.0 p.1)) (with_offsets at xs)
walk-placed at [] [] e = refl
walk-placed at [] (b ∷ rest) e = absurd (omega (arith, e))
walk-placed at (x ∷ xs) rest e = ap (λ (t : List (Result FoundAttr Overrun)). Ok (found_attr at x) ∷ t) (walk-placed (at + length x) xs rest e)

-- the law `attributes_walked`
pub attributes_walked_holds : attributes_walked
unfolding walk_from
attributes_walked_holds section at whole =
    let p = cut attribute_size section in
    walk-placed at p.items p.rest (eqb-true (length p.rest) 0 whole)

-- A list of attributes beside the route that it is: a search for a code, and a copy that grows.
use Rattle.std.proofs.Common.{◌≡◌, inl, inr, refl, sym, ap, ◌∙◌, ℕ, ◌+◌, [], ◌∷◌, ◌++◌, Option, Some, None, Bor, find}
use Rattle.std.specs.Prelude.{◌==◌}
use Rattle.std.specs.Option.{option_map}
use Rattle.std.specs.Ordering.{nat_cmp}
use Rattle.std.specs.declared.cmp.Ordering.TheVariants.{Less, Equal, Greater}
use Rattle.std.proofs.lemmas.Bool.Decides.{eqb_tells}
use Rattle.bgp_attr.specs.Routes.{Attribute, Route, attribute_at}
use Rattle.xbgp_view.specs.Sections.{below_code, entry_of}
use Rattle.xbgp_view.proofs.LowerLemmas.{nat_cmp-equal, eq-nat_cmp}
use Rattle.xbgp_view.proofs.ViewsLemmas.{IsNext}

-- the first entry of a code has what the route has for it
find-code : (r : Route) (code : ℕ) → option_map (λ e. e.1) (find (λ e. e.0 == code) r) ≡ attribute_at r code
find-code [] code = refl
find-code (e ∷ r) code = elim (eqb_tells e.0 code) [
  | inl here ↦ rw (nat_cmp-equal code e.0 (sym here.1), here.0) refl
  | inr other ↦ elim (nat_cmp code e.0) as (λ o. nat_cmp code e.0 ≡ o
      → option_map (λ e. e.1) (find (λ e. e.0 == code) (e ∷ r)) ≡ attribute_at (e ∷ r) code) [
        | Less ↦ λ is. rw (other.0, is) (find-code r code)
        | Equal ↦ λ is. absurd (other.1 (sym (eq-nat_cmp code e.0 is)))
        | Greater ↦ λ is. rw (other.0, is) (find-code r code)
      ] refl
]

-- the same of a lent node
pub node_found : (found : Option (Bor (ℕ × Attribute))) (r : Route) (code : ℕ)
    → option_map (λ n. n.now) found ≡ find (λ e. e.0 == code) r
    → option_map (λ n. n.now.1) found ≡ attribute_at r code
node_found None r code e = ap (option_map (λ e. e.1)) e ∙ find-code r code
node_found (Some n) r code e = ap (option_map (λ e. e.1)) e ∙ find-code r code

-- a list with the entries below a number, and then the next entry
pub below_code-more : (r : Route) (from code n : ℕ) (old new : Route) → IsNext r from code → old ≡ below_code from r
    → new ≡ old ++ entry_of code (attribute_at r code) → n ≡ code → new ≡ below_code (n + 1) r
below_code-more r from code n old new next is more same =
    more ∙ ap (λ l. l ++ entry_of code (attribute_at r code)) is ∙ sym next.lower
    ∙ ap (λ k. below_code (k + 1) r) (sym same)

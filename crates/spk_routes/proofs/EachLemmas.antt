-- The steps over octets that write whole prefixes.
use Rattle.std.proofs.Common.{◌≡◌, refl, ◌∙◌, ap, subst, sym, ℕ, true, List, [], ◌∷◌, map}
use Rattle.std.specs.Prelude.{Ok}
use Rattle.xb_values.specs.Prefixes.{Prefix, are_prefixes, prefixes}
use Rattle.bgp_update.specs.Walks.{prefixes_from}
use Rattle.bgp_update.proofs.WalkLemmas.{prefixes_from-whole}
use Rattle.spk_routes.specs.Each.{prefixes_in, HasNoError}

prefixes_in-map : (ps : List Prefix) → prefixes_in (map (λ p. Ok p) ps) ≡ ps
prefixes_in-map [] = refl
prefixes_in-map (p ∷ ps) = ap (λ l. p ∷ l) (prefixes_in-map ps)

HasNoError-map : (ps : List Prefix) → HasNoError (map (λ p. Ok p) ps)
HasNoError-map [] = tt
HasNoError-map (p ∷ ps) = HasNoError-map ps

-- they are the prefixes
pub all_prefixes : (s : List ℕ) → are_prefixes s ≡ true → prefixes_in (prefixes_from s) ≡ prefixes s
all_prefixes s whole = ap prefixes_in (prefixes_from-whole s whole) ∙ prefixes_in-map (prefixes s)

-- and no error is among them
pub no_error : (s : List ℕ) → are_prefixes s ≡ true → HasNoError (prefixes_from s)
no_error s whole = subst HasNoError (sym (prefixes_from-whole s whole)) (HasNoError-map (prefixes s))

-- Laws of the decision (RFC 4271, section 9.1.2.2) and of the two widths of AS numbers (RFC 6793, sections 4.2.2 and
-- 4.2.3).
use Rattle.std.specs.Prelude.{◌≡◌, ◌≢◌, ℕ, true, false, List, [], ◌∷◌, fold, AllPairs, IsPermutation}
use Rattle.xb_words.specs.Octets.{AreOctets}
use Rattle.bgp_attr.specs.Routes.{route_of}
use Rattle.bgp_check.specs.Judgement.{is_clean}
use Rattle.spk_native.specs.declared.decision.Rank.{Rank}
use Rattle.spk_native.specs.Decision.{survivors}
use Rattle.spk_native.specs.Receipt.{inflow, narrow}

-- no two ranks have the same address
abbrev pub AreApart : List Rank → Type 0
AreApart ranks = AllPairs (λ a b. a.address ≢ b.address) ranks

-- no two ranks have the same neighbour AS and different MEDs
abbrev pub HaveOneMed : List Rank → Type 0
HaveOneMed ranks = AllPairs (λ a b. a.neighbour ≡ b.neighbour → a.med ≡ b.med) ranks

-- the first of a list, or another
abbrev pub first_or : Rank → List Rank → Rank
first_or r [] = r
first_or r (s ∷ ranks) = s

-- the decision of two
abbrev pub better_of : Rank → Rank → Rank
better_of a b = first_or a (survivors (a ∷ b ∷ []))

-- the decision of two, along a list
abbrev pub pairwise : Rank → List Rank → Rank
pairwise first ranks = fold better_of first ranks

-- The law: if no two ranks have the same neighbour AS and different MEDs, the decision of two, along any order of the
-- set, is the decision of the set.
abbrev pub fold_law : Type 0
fold_law =
    (ranks order : List Rank) (first : Rank) → AreApart ranks → HaveOneMed ranks
    → IsPermutation ranks (first ∷ order) → survivors ranks ≡ pairwise first order ∷ []

-- The law: the route of a clean section, made narrow and received again, is the route.
abbrev pub wide_narrow_law : Type 0
wide_narrow_law =
    (section : List ℕ) → AreOctets section → is_clean section ≡ true
    → inflow (narrow (route_of section)) false ≡ route_of section

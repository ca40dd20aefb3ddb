-- A worked set of three candidates, by evaluation: two of them come from one neighbour AS.
use Rattle.std.proofs.Common.{◌≡◌, refl, ℕ, List, [], ◌∷◌}
use Rattle.spk_native.specs.declared.decision.Rank.{Rank}
use Rattle.spk_native.specs.Decision.{survivors, survivor}
use Rattle.spk_native.specs.Laws.{pairwise}

candidate : ℕ → ℕ → ℕ → Rank
candidate neighbour med address = record {
  degree = 100;
  hops = 1;
  origin = 0;
  med = med;
  neighbour = neighbour;
  kind = 1;
  cost = 0;
  id = address;
  address = address;
}

abbrev candidates : List Rank
candidates = candidate 65001 20 1 ∷ candidate 65002 0 2 ∷ candidate 65001 10 3 ∷ []

-- the third excludes the first by its MED, and the second is better than the third by its identifier
of_the_set : survivor candidates ≡ 1
unfolding survivors candidate
of_the_set = refl

-- two at a time, the first excludes the second, and the third the first: the premise of the law is needed
two_at_a_time
    : pairwise (candidate 65001 20 1) (candidate 65002 0 2 ∷ candidate 65001 10 3 ∷ []) ≡ candidate 65001 10 3
unfolding survivors candidate
two_at_a_time = refl

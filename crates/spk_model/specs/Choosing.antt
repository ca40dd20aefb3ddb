-- What the best route of a prefix is chosen from, and what a choice leaves (this project's own).
use Rattle.std.specs.Prelude.{◌≢◌, ℕ, List}
use Rattle.std.specs.List.{AllPairs}
use Rattle.xb_domain.specs.declared.point.Point.{Point}
use Rattle.xb_domain.specs.declared.side.Side.{Side}
use Rattle.bgp_attr.specs.Routes.{Route}
use Rattle.spk_native.specs.declared.decision.Rank.{Rank}
use Rattle.xbgp_points.specs.declared.outcome.Outcome.{Outcome}
use Rattle.xbgp_points.specs.Points.{Engine}

-- the outcomes of chain runs with their points, in the order in which they ran
abbrev pub Trace : Type 0
Trace = List (Point × Outcome)

-- one route that a prefix has, with its source and its rank
pub record Candidate : Type 0 where
  pub route : Route
  pub side : Side
  pub rank : Rank

-- the index of the best candidate, and what the programs left
pub record Choice : Type 0 where
  pub index : ℕ
  pub engine : Engine
  pub trace : Trace

-- candidates whose addresses are distinct, as those of one prefix are
abbrev pub AreRivals : List Candidate → Type 0
AreRivals cs = AllPairs (λ a b. (a.rank).address ≢ (b.rank).address) cs

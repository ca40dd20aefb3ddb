-- The programs of a point by their numbers, and what a chain of them leaves (for private functions).
use Rattle.std.specs.Prelude.{◌≡◌, ℕ, ◌<◌, false, List, [], ◌∷◌, length, map, filter, Some, None, IsSomeAnd}
use Rattle.std.specs.Prelude.{nat_lt, not, ◌&&◌, ◌==◌, ◌++◌, if◌then◌else◌}
use Rattle.std.specs.List.{slice_get, AllByRecursion}
use Rattle.xb_domain.specs.declared.point.Point.{Point}
use Rattle.xb_domain.specs.declared.point.Point.TheVariants.{Receive, Inbound, Decision, Outbound, Encode}
use Rattle.xb_domain.specs.Points.{helper_allowed}
use Rattle.bgp_attr.specs.Routes.{Route}
use Rattle.bpf_insn.specs.Sound.{CallsOnly}
use Rattle.xbgp_maps.specs.Mappings.{Mapping, closed}
use Rattle.xbgp_helpers.specs.Worlds.{World}
use Rattle.xbgp_manifest.specs.declared.entries.ProgramEntry.{ProgramEntry}
use Rattle.xbgp_manifest.specs.declared.limits.TheConstants.{MAX_PROGRAMS}
use Rattle.xbgp_points.specs.declared.order.Orders.{Orders}
use Rattle.xbgp_points.specs.declared.work.Work.{Work}
use Rattle.xbgp_points.specs.declared.outcome.Outcome.{Outcome}
use Rattle.xbgp_points.specs.Chains.{Faults, Chained, is_failed, numbered, same_point}

-- the numbers of the programs of a point, of some programs that are numbered from n on
abbrev pub numbers_from : Point → ℕ → List ProgramEntry → List ℕ
numbers_from point n programs = map (λ p. p.0) (filter (λ p. same_point (p.1).point point) (numbered n programs))

-- the programs of some numbers, with these
abbrev pub picked : List ProgramEntry → List ℕ → List (ℕ × ProgramEntry)
picked programs [] = []
picked programs (n ∷ ns) =
    elim (slice_get programs n) [ None ↦ picked programs ns | Some p ↦ (n, p) ∷ picked programs ns ]

-- the number is that of a program, which calls what a point allows
pub record IsRunnable (point : Point) (programs : List ProgramEntry) (n : ℕ) : Type 0 where
  pub few : n < MAX_PROGRAMS
  pub within : n < length programs
  pub calls : IsSomeAnd (slice_get programs n) (λ p. CallsOnly (helper_allowed point) p.code)

-- each number is
abbrev pub AreRunnable : Point → List ProgramEntry → List ℕ → Type 0
AreRunnable point programs numbers = AllByRecursion (IsRunnable point programs) numbers

-- the numbers of the programs of each point
pub record AreOrders (programs : List ProgramEntry) (o : Orders) : Type 0 where
  pub receive : o.receive.items ≡ numbers_from Receive 0 programs
  pub inbound : o.inbound.items ≡ numbers_from Inbound 0 programs
  pub decision : o.decision.items ≡ numbers_from Decision 0 programs
  pub outbound : o.outbound.items ≡ numbers_from Outbound 0 programs
  pub encode : o.encode.items ≡ numbers_from Encode 0 programs

-- what programs may change of a world
pub record Parts : Type 0 where
  pub route : Route
  pub maps : List Mapping
  pub writes : ℕ
  pub buffer : List ℕ

abbrev pub parts_of : World → Parts
parts_of w = record { route = w.route; maps = w.maps; writes = w.writes; buffer = w.buffer }

-- what a chain gives, and the faults and, unless a program failed, the parts that it leaves, before anything is taken
-- back
pub record Leaves (c : Chained) (given : Outcome) (noted : Faults) (left : Parts) : Type 0 where
  pub outcome : given ≡ c.outcome
  pub faults : noted ≡ c.faults
  pub parts : is_failed given ≡ false → left ≡ parts_of c.world

-- the section that a verdict at encode gives, from the native section and the write buffer
abbrev pub section_of : ℕ → List ℕ → List ℕ → List ℕ
section_of verdict native buffer = if verdict == 1 then buffer else native ++ buffer

-- what a chain gives, the route that it leaves, and the maps and faults that it leaves
pub record Ran (c : Chained) (given : Outcome) (edited : Route) (w : Work) : Type 0 where
  pub outcome : given ≡ c.outcome
  pub route : edited ≡ (c.world).route
  pub maps : w.maps ≡ closed (c.world).maps
  pub faults : w.faults ≡ c.faults
  pub wrote : w.wrote ≡ (not (is_failed c.outcome) && nat_lt 0 (c.world).writes)

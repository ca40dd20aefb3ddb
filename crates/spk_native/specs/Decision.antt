-- The native decision (RFC 4271, section 9.1.1 for the degree of preference, 9.1.2.2 for the rest; how local routes
-- compare is this project's own).
use Rattle.std.specs.Prelude.{ℕ, Bool, List, [], ◌∷◌, filter, fold, slice_index, nat_lt, ◌==◌, ◌&&◌, not, if◌then◌else◌}
use Rattle.std.specs.Option.{unwrap_or}
use Rattle.std.specs.List.{list_any, position_or_len}
use Rattle.xb_domain.specs.declared.side.Side.{Side}
use Rattle.bgp_attr.specs.declared.codes.TheConstants.{ORIGIN, MULTI_EXIT_DISC, LOCAL_PREF}
use Rattle.bgp_attr.specs.Routes.{Route}
use Rattle.bgp_attr.specs.Paths.{hops, leftmost}
use Rattle.spk_native.specs.declared.decision.Rank.{Rank}
use Rattle.spk_native.specs.declared.decision.Key.{Key}
use Rattle.spk_native.specs.declared.decision.Key.TheVariants.{Degree, Hops, Origin, Med, Kind, Cost, Id, Address}
use Rattle.spk_native.specs.Values.{value_or_none, number_or, path_of}

-- what a candidate is compared by, given the default degree and the interior cost of its NEXT_HOP
abbrev pub rank : Route → Side → ℕ → ℕ → Rank
rank route side default cost = record {
  degree = number_or route LOCAL_PREF default;
  hops = hops (path_of route);
  origin = slice_index (value_or_none route ORIGIN) 0;
  med = number_or route MULTI_EXIT_DISC 0;
  neighbour = unwrap_or (leftmost (path_of route)) side.asn;
  kind = side.kind;
  cost = cost;
  id = side.id;
  address = side.address;
}

-- a is better than b by a key: the degree is to be the highest, all others the lowest, and a MED is compared only with
-- those of the same neighbour AS
abbrev pub is_better : Key → Rank → Rank → Bool
is_better Degree a b = nat_lt b.degree a.degree
is_better Hops a b = nat_lt a.hops b.hops
is_better Origin a b = nat_lt a.origin b.origin
is_better Med a b = a.neighbour == b.neighbour && nat_lt a.med b.med
is_better Kind a b = nat_lt a.kind b.kind
is_better Cost a b = nat_lt a.cost b.cost
is_better Id a b = nat_lt a.id b.id
is_better Address a b = nat_lt a.address b.address

-- the keys in the order in which they decide
abbrev pub keys : List Key
keys = Degree ∷ Hops ∷ Origin ∷ Med ∷ Kind ∷ Cost ∷ Id ∷ Address ∷ []

-- some rank is better than r by a key
abbrev pub is_beaten : Key → List Rank → Rank → Bool
is_beaten key ranks r = list_any (λ other. is_better key other r) ranks

-- those than which no other one is better by a key
abbrev pub unbeaten : List Rank → Key → List Rank
unbeaten ranks key = filter (λ r. not (is_beaten key ranks r)) ranks

-- those that are left after all keys
unfoldable pub survivors : List Rank → List Rank
survivors ranks = fold unbeaten ranks keys

-- the index of the one that is left, by its address
abbrev pub survivor : List Rank → ℕ
survivor ranks = position_or_len (λ r. list_any (λ s. s.address == r.address) (survivors ranks)) ranks

-- of some ranks, those that are marked as left (for `survivor` of src/decision.rt)
abbrev pub left_of : List Rank → List Bool → List Rank
left_of [] left = []
left_of (r ∷ ranks) [] = []
left_of (r ∷ ranks) (b ∷ left) = if b then r ∷ left_of ranks left else left_of ranks left

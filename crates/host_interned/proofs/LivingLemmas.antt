-- The route of a record that lives.
use Rattle.std.proofs.Common.{◌≡◌, refl, subst, ℕ, Option, Some, None}
use Rattle.std.specs.Option.{option_map}
use Rattle.bgp_attr.specs.Routes.{Route}
use Rattle.spk_routes.specs.Sound.{IsSound}
use Rattle.attr_intern.specs.Pools.{Records, Owned, record_at, route_at}
use Rattle.host_interned.specs.Ribs.{AreSound}

sound_record : (records : Records) (id : ℕ) (o : Option Owned) (route : Route) → AreSound records
    → record_at records id ≡ o → option_map (λ w. w.route) o ≡ Some route → IsSound route
sound_record records id None route sound is means = absurd (cc means)
sound_record records id (Some o) route sound is means =
    let same : o.route ≡ route = cc means in
    subst IsSound same (sound id o is)

-- the route that an id means is sound
pub sound_route : (records : Records) (id : ℕ) (route : Route) → AreSound records
    → route_at records id ≡ Some route → IsSound route
sound_route records id route sound means = sound_record records id (record_at records id) route sound refl means

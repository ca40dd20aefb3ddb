-- What is kept of what peers are sent, in places by prefix (for the private functions of kept.rt and export.rt).
use Rattle.std.specs.Prelude.{◌≡◌, Some, slice_get, IfSome}
use Rattle.bgp_attr.specs.Routes.{Route}
use Rattle.spk_routes.specs.declared.kept.Kept.{Kept}

-- the place of the best route, if it has one, has forms of that route
abbrev pub HaveForms : Kept → Route → Type 0
HaveForms k best = IfSome k.place (λ i. slice_get k.places.items i ≡ Some best)

-- Attributes that are marked as partial one after another (for the loop of export.rt).
use Rattle.std.specs.Prelude.{ℕ, map, nat_lt, ◌==◌, if◌then◌else◌}
use Rattle.bgp_attr.specs.Routes.{Route}
use Rattle.spk_native.specs.Export.{marked_partial}

-- the route with the attribute of a code marked
abbrev pub marked_at : ℕ → Route → Route
marked_at code route = map (λ e. if e.0 == code then marked_partial e else e) route

-- the route with the attributes below a code marked
abbrev pub marked_below : ℕ → Route → Route
marked_below code route = map (λ e. if nat_lt e.0 code then marked_partial e else e) route

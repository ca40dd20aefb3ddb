-- What a core shows once its rib shows other routes.
use Rattle.std.proofs.Common.{◌≡◌, ◌≤◌, ◌-◌, refl, sym, ◌∙◌, ap, subst, ℕ, List, length}
use Rattle.std.specs.List.{AllByRecursion}
use Rattle.std.proofs.Math.ListN.{length-set}
use Rattle.xb_values.specs.Prefixes.{Prefix}
use Rattle.bgp_attr.specs.Routes.{Route}
use Rattle.xbgp_view.specs.Views.{Edited}
use Rattle.xbgp_points.specs.Engines.{Kept}
use Rattle.xbgp_points.specs.Points.{Engine}
use Rattle.spk_model.specs.Routing.{Chosen, Routing, Tables}
use Rattle.spk_routes.specs.Exports.{Exporting}
use Rattle.host_interned.specs.declared.routing.Core.{Core}
use Rattle.host_interned.specs.Ribs.{RibView, Shows, with_peer}
use Rattle.host_interned.specs.Meaning.{IsReady}

abbrev pub routing_with : List (Prefix × Chosen) → Engine → List Tables → Routing
routing_with best engine tables = record { best = best; engine = engine; tables = tables }

-- the routes that a rib shows
pub routing_shown : (engine : Engine) (own : Route) (best : List (Prefix × Chosen)) (tables : List Tables) (r : RibView)
    → Shows own best tables r → routing_with best engine tables ≡ routing_with r.best engine r.tables
routing_shown engine own best tables r shows =
    ap (λ (b : List (Prefix × Chosen)). routing_with b engine tables) (sym shows.best_is)
    ∙ ap (λ (t : List Tables). routing_with r.best engine t) (sym shows.tables_are)

-- the engine, the rib, the received routes and the section change
abbrev pub changed_core : Core → Kept → RibView → Edited → Edited → Exporting → Core
changed_core a e r received route x =
    record a { engine = e; rib = r; received = received; route = route; exporter = x }

-- such a core may be used again
pub ready_shown : (a : Core) (e : Kept) (r : RibView) (received route : Edited) (x : Exporting)
    (best : List (Prefix × Chosen)) (tables : List Tables) → IsReady a → e.local ≡ a.engine.local
    → Shows a.rib.own best tables r → length tables ≡ length a.rib.tables
    → AllByRecursion (λ b. b.1.source ≤ length a.config.peers) best
    → IsReady (changed_core a e r received route x)
ready_shown a e r received route x best tables ready local shows count sources = record {
  few = ready.few;
  local = local ∙ ready.local;
  own = shows.own_is ∙ ready.own;
  count = ap length shows.tables_are ∙ count ∙ ready.count;
  sources = subst (AllByRecursion (λ b. b.1.source ≤ length a.config.peers)) (sym shows.best_is) sources;
}

-- a peer gets other tables
pub count_with_peer : (r : RibView) (p : ℕ) (t : Tables) → length (with_peer r p t) ≡ length r.tables
count_with_peer r p t = length-set r.tables (p - 1) t

pub ready_with_peer : (a : Core) (e : Kept) (r : RibView) (received route : Edited) (x : Exporting) (p : ℕ) (t : Tables)
    → IsReady a → e.local ≡ a.engine.local → Shows a.rib.own a.rib.best (with_peer a.rib p t) r
    → IsReady (changed_core a e r received route x)
ready_with_peer a e r received route x p t ready local shows =
    ready_shown a e r received route x a.rib.best (with_peer a.rib p t) ready local shows (count_with_peer a.rib p t)
    ready.sources

-- the rib shows the same
pub ready_same : (a : Core) (e : Kept) (r : RibView) (received route : Edited) (x : Exporting) → IsReady a
    → e.local ≡ a.engine.local → Shows a.rib.own a.rib.best a.rib.tables r
    → IsReady (changed_core a e r received route x)
ready_same a e r received route x ready local shows =
    ready_shown a e r received route x a.rib.best a.rib.tables ready local shows refl ready.sources

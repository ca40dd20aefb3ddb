-- The routes' half as the sessions' half sees it.
use Rattle.std.proofs.Common.{◌≡◌, sym, ◌∙◌, ap, subst, ℕ, ◌≤◌, ◌-◌, List, length}
use Rattle.std.proofs.Common.{Bool, Option, Some, None}
use Rattle.std.specs.Prelude.{Result, Ok, Err, IfSome, OnOk, is_some}
use Rattle.std.specs.List.Sorted.{IsStrictlySortedBy}
use Rattle.std.specs.declared.alloc.AllocError.{AllocError}
use Rattle.std.proofs.lemmas.List.{set-get_or}
use Rattle.xb_domain.specs.declared.output.Packing.TheVariants.{Grouped}
use Rattle.xb_values.specs.Buffers.{Buffer}
use Rattle.xb_words.specs.Table.{IsRising}
use Rattle.bgp_write.specs.Pending.{Formed, form}
use Rattle.bgp_write.specs.Written.{Replaces}
use Rattle.out_grouped.specs.Told.{told_after, written_after}
use Rattle.xbgp_maps.specs.Mappings.{Mapping, IsMapping, key_cmp}
use Rattle.spk_model.specs.declared.host.Setup.{Setup}
use Rattle.spk_model.specs.Readers.{entries_in}
use Rattle.spk_model.specs.Routing.{Routing, Routed, Tables, no_tables, tables_of, with_tables}
use Rattle.spk_session.specs.Routed.{Reroutes, Tells}
use Rattle.host_interned.specs.declared.routing.Core.{Core}
use Rattle.host_interned.specs.Ribs.{RibView, Shows, tables_in, with_peer}
use Rattle.host_interned.specs.Meaning.{Goes, IsReady, Seen, seen_of, setup_of, routing_of}
use Rattle.host_interned.proofs.ShownLemmas.{routing_shown, routing_with}

-- the peers of a core are those that are seen
pub peers_seen : (a : Core) (v : Seen) → seen_of a ≡ v → length ((v.setup).config).peers ≡ length a.config.peers
peers_seen a v is = ap (λ (x : Seen). length ((x.setup).config).peers) (sym is)

-- a core that went on may be used again
pub goes_ready : (r : Result (Unit {0}) AllocError) (step : Setup → Routed → Routed) (a b : Core) → Goes r step a b
    → IsReady b
goes_ready (Ok u) step a b goes = goes.ready
goes_ready (Err e) step a b goes = goes

-- its setup stays
pub goes_setup : (r : Result (Unit {0}) AllocError) (step : Setup → Routed → Routed) (a b : Core) (v : Seen)
    → seen_of a ≡ v → Goes r step a b → OnOk r (setup_of b ≡ v.setup)
goes_setup (Ok u) step a b v is goes = goes.setup ∙ ap (λ (x : Seen). x.setup) is
goes_setup (Err e) step a b v is goes = tt

-- and its routes went on
pub goes_routes : (r : Result (Unit {0}) AllocError) (step : Setup → Routed → Routed) (a b : Core) (v : Seen)
    → seen_of a ≡ v → Goes r step a b → OnOk r (Reroutes (step v.setup) v.routing (routing_of b))
goes_routes (Ok u) step a b v is goes =
    subst (λ (x : Seen). Reroutes (step x.setup) x.routing (routing_of b)) is goes.routing
goes_routes (Err e) step a b v is goes = tt

-- the next message of a peer, by the tables that it leaves
pub tells_tables : (o : Option Formed) (r : Routing) (p : ℕ) (new : Tables) (out written : Buffer) (result : Bool)
    → result ≡ is_some o → new ≡ record (tables_of r p) { told = told_after o (tables_of r p).told }
    → Replaces out written (written_after o out.octets)
    → Tells o p r (with_tables r p new) out written result
tells_tables None r p new out written result formed told wrote = (
  formed,
  ap (λ (t : Tables). with_tables r p t) told
      ∙ ap (λ (l : List Tables). record r { tables = l }) (set-get_or r.tables (p - 1) no_tables),
  wrote,
)
tells_tables (Some f) r p new out written result formed told wrote = (formed, ap (with_tables r p) told, wrote)

-- the next message of a peer, and fewer prefixes wait
module _ (a : Core) (p : ℕ) (ready : IsReady a) (least : 1 ≤ p) (most : p ≤ length a.config.peers) where
  shown_routing : (r : RibView) (new : Tables) → Shows a.rib.own a.rib.best (with_peer a.rib p new) r
      → with_tables (routing_of a) p new ≡ routing_with r.best a.engine.engine r.tables
  shown_routing r new shows =
      routing_shown a.engine.engine a.rib.own a.rib.best (with_peer a.rib p new) r shows

  pub core_tells : (r : RibView) (new : Tables) (out written : Buffer) (result : Bool)
      → Shows a.rib.own a.rib.best (with_peer a.rib p new) r
      → result ≡ is_some (form Grouped (tables_in a.rib p).adv (tables_in a.rib p).told)
      → new ≡ record (tables_in a.rib p) {
        told = told_after
            (form Grouped (tables_in a.rib p).adv (tables_in a.rib p).told) (tables_in a.rib p).told;
      }
      → Replaces out written (written_after (form Grouped (tables_in a.rib p).adv (tables_in a.rib p).told) out.octets)
      → Tells (form Grouped (tables_of (routing_of a) p).adv (tables_of (routing_of a) p).told) p (routing_of a)
      (routing_with r.best a.engine.engine r.tables) out written result
  core_tells r new out written result shows formed told wrote =
      subst (λ (x : Routing). Tells (form Grouped (tables_of (routing_of a) p).adv (tables_of (routing_of a) p).told) p
      (routing_of a) x out written result) (shown_routing r new shows)
      (tells_tables (form Grouped (tables_in a.rib p).adv (tables_in a.rib p).told)
      (routing_of a) p new out written result
      formed told wrote)

-- the keys of a map rise
pub rising_in : (o : Option Mapping) → IfSome o IsMapping → IsRising key_cmp (entries_in o)
unfolding IsStrictlySortedBy
rising_in None known = tt
rising_in (Some m) known = known.rising

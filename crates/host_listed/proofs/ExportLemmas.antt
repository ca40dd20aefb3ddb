-- What an export leaves.
use Rattle.std.proofs.Common.{◌≡◌, ◌≤◌, ◌<◌, ◌-◌, refl, sym, ◌∙◌, ap, subst, ℕ, Bool, true, false, List, ◌++◌}
use Rattle.std.proofs.Common.{length, arith, Vec, Option, Some, None}
use Rattle.std.specs.Prelude.{slice_index_or, if◌then◌else◌, IfSome}
use Rattle.std.specs.Option.{option_map}
use Rattle.std.specs.List.{slice_set}
use Rattle.std.specs.declared.alloc.Global.{Global}
use Rattle.std.proofs.lemmas.List.{get_or_default}
use Rattle.std.proofs.Math.ListN.{length-set}
use Rattle.xb_words.specs.Table.{value_at, with_value, without}
use Rattle.xb_words.proofs.TableLemmas.{value_at-some}
use Rattle.xb_values.specs.Prefixes.{Prefix, Sections, prefix_cmp}
use Rattle.xb_domain.specs.declared.side.Side.{Side}
use Rattle.bgp_attr.specs.Routes.{Route}
use Rattle.bgp_fsm.specs.Sessions.{Owned, start_session}
use Rattle.xbgp_manifest.specs.Manifests.{Manifest}
use Rattle.xbgp_points.specs.Engines.{Kept}
use Rattle.xbgp_points.specs.Points.{Engine}
use Rattle.spk_model.specs.declared.host.Setup.{Setup}
use Rattle.spk_model.specs.Choosing.{Trace}
use Rattle.spk_model.specs.Sources.{session_of, is_established, is_up, is_wide, side_of}
use Rattle.spk_model.specs.Exporting.{Exported, exported}
use Rattle.spk_model.specs.Routing.{Routed, Tables, Chosen, no_tables, with_tables, at_tables}
use Rattle.spk_model.specs.Routing.{set_adv, export, export_best, advertise}
use Rattle.spk_routes.specs.Exports.{Exporting}
use Rattle.spk_routes.specs.Sound.{IsSound}
use Rattle.host_listed.specs.declared.routing.Core.{Core}
use Rattle.host_listed.specs.Meaning.{Does, IsLoaded, IsReady, setup_of, routing_of, routed}

-- a session by its index is that of the peer's number
pub session_at : (sessions : List Owned) (p : ℕ) (s : Owned) → 1 ≤ p → p ≤ length sessions
    → s ≡ slice_index_or sessions (p - 1) s → s ≡ session_of sessions p
session_at sessions p s least most is =
    let inside : p - 1 < length sessions = omega arith in
    is ∙ get_or_default sessions (p - 1) s (record { own = 0; session = start_session }) inside

-- and so are tables
pub tables_at : (tables : List Tables) (p : ℕ) (t : Tables) → 1 ≤ p → p ≤ length tables
    → t ≡ slice_index_or tables (p - 1) t → t ≡ slice_index_or tables (p - 1) no_tables
tables_at tables p t least most is =
    let inside : p - 1 < length tables = omega arith in
    is ∙ get_or_default tables (p - 1) t no_tables inside

-- a best route's source is the number of a party
pub source_within : (a : Core) (prefix : Prefix) (b : Chosen) → IsReady a
    → value_at prefix_cmp a.best.entries prefix ≡ Some b → b.source ≤ length a.config.peers
source_within a prefix b ready is =
    (value_at-some prefix_cmp (λ e. e.1.source ≤ length a.config.peers) a.best.entries prefix b ready.sources is).2

-- a peer that is not Established has no export
pub not_exported : (a : Core) (sessions : List Owned) (prefix : Prefix) (p : ℕ) (s : Owned) → IsReady a
    → length sessions ≡ length a.config.peers → 1 ≤ p → p ≤ length a.config.peers
    → s ≡ slice_index_or sessions (p - 1) s → is_established (s.session).state ≡ false
    → Does (λ setup t. export setup sessions prefix t p) a a
unfolding export
not_exported a sessions prefix p s ready all least most is down =
    let off : is_up sessions p ≡ false =
    ap (λ (x : Owned). is_established (x.session).state)
    (sym (session_at sessions p s least (subst (λ (n : ℕ). p ≤ n) (sym all) most) is)) ∙ down in
    record {
      ready = ready;
      setup = refl;
      routing = λ trace.
          ap (λ (b : Bool). (if b then export_best (setup_of a) sessions (routed trace a) p prefix
          (value_at prefix_cmp a.best.entries prefix) else routed trace a).routing) off;
    }

abbrev pub adv_after : Sections → Prefix → Option (List ℕ) → Sections
adv_after adv prefix None = without prefix_cmp adv prefix
adv_after adv prefix (Some section) = with_value prefix_cmp adv prefix section

adv_routing : (t : Routed) (p : ℕ) (prefix : Prefix) (o : Option (List ℕ))
    → (set_adv t p prefix o).routing
    ≡ with_tables t.routing p (record (at_tables t p) { adv = adv_after (at_tables t p).adv prefix o })
adv_routing t p prefix None = refl
adv_routing t p prefix (Some section) = refl

-- the engine, the tables and the section change in an export
abbrev pub exported_core : Core → Kept → Vec Tables Global → Exporting → Core
exported_core a e ts x = record a { engine = e; peers = ts; exporter = x }

-- such a core may be used again
pub ready_exported : (a : Core) (e : Kept) (ts : Vec Tables Global) (x : Exporting) (p : ℕ) (t : Tables) → IsReady a
    → e.local ≡ a.engine.local → ts.items ≡ slice_set a.peers.items (p - 1) t → IsReady (exported_core a e ts x)
ready_exported a e ts x p t ready local items = record {
  few = ready.few;
  local = local ∙ ready.local;
  own = ready.own;
  count = ap length items ∙ length-set a.peers.items (p - 1) t ∙ ready.count;
  sources = ready.sources;
}

-- an export that ends in a change of what is advertised
lands : (a : Core) (e : Kept) (ts : Vec Tables Global) (x : Exporting) (sessions : List Owned) (prefix : Prefix) (p : ℕ)
    (tables : Tables) (o : Option (List ℕ)) (after : Trace → Trace)
    → IsReady a → 1 ≤ p → p ≤ length a.config.peers → tables ≡ slice_index_or a.peers.items (p - 1) tables
    → e.manifest ≡ a.engine.manifest → e.local ≡ a.engine.local
    → ts.items ≡ slice_set a.peers.items (p - 1) (record tables { adv = adv_after tables.adv prefix o })
    → ((trace : Trace) → export (setup_of a) sessions prefix (routed trace a) p
    ≡ set_adv (record { routing = record (routing_of a) { engine = e.engine }; trace = after trace }) p prefix o)
    → Does (λ setup t. export setup sessions prefix t p) a (exported_core a e ts x)
lands a e ts x sessions prefix p tables o after ready least most is manifest local items says =
    let same : tables ≡ slice_index_or a.peers.items (p - 1) no_tables =
    tables_at a.peers.items p tables least (subst (λ (n : ℕ). p ≤ n) (sym ready.count) most) is in
    let moved : slice_set a.peers.items (p - 1)
    (record (slice_index_or a.peers.items (p - 1) no_tables)
    { adv = adv_after (slice_index_or a.peers.items (p - 1) no_tables).adv prefix o }) ≡ ts.items =
    ap (λ (t : Tables). slice_set a.peers.items (p - 1) (record t { adv = adv_after t.adv prefix o })) (sym same)
    ∙ sym items in
    record {
      ready = record {
        few = ready.few;
        local = local ∙ ready.local;
        own = ready.own;
        count = ap length items
            ∙ length-set a.peers.items (p - 1) (record tables { adv = adv_after tables.adv prefix o }) ∙ ready.count;
        sources = ready.sources;
      };
      setup = ap (λ (m : Manifest). record { config = a.config; manifest = m }) manifest;
      routing = λ trace.
          ap (λ (t : Routed). t.routing) (says trace)
          ∙ adv_routing (record { routing = record (routing_of a) { engine = e.engine }; trace = after trace }) p prefix o
          ∙ ap (λ (l : List Tables). record { best = a.best.entries; engine = e.engine; tables = l }) moved;
    }

when_up : (a : Core) (sessions : List Owned) (prefix : Prefix) (p : ℕ) (s : Owned) (best : Option Chosen)
    → length sessions ≡ length a.config.peers → 1 ≤ p → p ≤ length a.config.peers
    → s ≡ slice_index_or sessions (p - 1) s → is_established (s.session).state ≡ true
    → value_at prefix_cmp a.best.entries prefix ≡ best
    → (trace : Trace) → export (setup_of a) sessions prefix (routed trace a) p
    ≡ export_best (setup_of a) sessions (routed trace a) p prefix best
unfolding export
when_up a sessions prefix p s best all least most is up found trace =
    let on : is_up sessions p ≡ true =
    ap (λ (x : Owned). is_established (x.session).state)
    (sym (session_at sessions p s least (subst (λ (n : ℕ). p ≤ n) (sym all) most) is)) ∙ up in
    ap (λ (b : Bool). if b then export_best (setup_of a) sessions (routed trace a) p prefix
    (value_at prefix_cmp a.best.entries prefix) else routed trace a) on
    ∙ ap (export_best (setup_of a) sessions (routed trace a) p prefix) found

-- a prefix without a best route is no longer advertised
pub retracted : (a : Core) (ts : Vec Tables Global) (sessions : List Owned) (prefix : Prefix) (p : ℕ)
    (tables : Tables) (s : Owned)
    → IsReady a → length sessions ≡ length a.config.peers → 1 ≤ p → p ≤ length a.config.peers
    → s ≡ slice_index_or sessions (p - 1) s → is_established (s.session).state ≡ true
    → value_at prefix_cmp a.best.entries prefix ≡ None
    → tables ≡ slice_index_or a.peers.items (p - 1) tables
    → ts.items ≡ slice_set a.peers.items (p - 1) (record tables { adv = without prefix_cmp tables.adv prefix })
    → Does (λ setup t. export setup sessions prefix t p) a (exported_core a a.engine ts a.exporter)
retracted a ts sessions prefix p tables s ready all least most s_is up found is items =
    lands a a.engine ts a.exporter sessions prefix p tables None (λ trace. trace) ready least most is refl refl items
    (when_up a sessions prefix p s None all least most s_is up found)

-- what a best route becomes for a peer, on what the core holds
abbrev pub gives_for : Core → Side → Bool → Side → Prefix → Route → Exported
gives_for a to wide from prefix route =
    exported a.engine.manifest a.config.local a.config.local_pref a.engine.engine to wide from prefix route

-- a best route is exported
pub exports : (a : Core) (e : Kept) (ts : Vec Tables Global) (x : Exporting) (sessions : List Owned) (prefix : Prefix) (p : ℕ)
    (tables : Tables) (s w : Owned) (b : Chosen) (number : ℕ) (route : Route) (to from : Side) (wide : Bool)
    (o : Option (List ℕ))
    → IsReady a → length sessions ≡ length a.config.peers → 1 ≤ p → p ≤ length a.config.peers
    → s ≡ slice_index_or sessions (p - 1) s → is_established (s.session).state ≡ true
    → value_at prefix_cmp a.best.entries prefix ≡ Some b → number ≡ b.source → route ≡ b.route
    → to ≡ side_of a.config sessions p → from ≡ side_of a.config sessions number
    → w ≡ slice_index_or sessions (p - 1) w → wide ≡ (w.session).wide
    → (gives_for a to wide from prefix route).section ≡ o
    → e.engine ≡ (gives_for a to wide from prefix route).engine
    → e.manifest ≡ a.engine.manifest → e.local ≡ a.engine.local
    → tables ≡ slice_index_or a.peers.items (p - 1) tables
    → ts.items ≡ slice_set a.peers.items (p - 1) (record tables { adv = adv_after tables.adv prefix o })
    → Does (λ setup t. export setup sessions prefix t p) a (exported_core a e ts x)
exports a e ts x sessions prefix p tables s w b number route to from wide o ready all least most s_is up found
    number_is route_is to_is from_is w_is wide_is section engine manifest local is items =
    let g : Exported = gives_for a to wide from prefix route in
    let wide_at : wide ≡ is_wide sessions p =
    wide_is ∙ ap (λ (y : Owned). (y.session).wide)
    (session_at sessions p w least (subst (λ (n : ℕ). p ≤ n) (sym all) most) w_is) in
    let given : gives_for a (side_of a.config sessions p) (is_wide sessions p) (side_of a.config sessions b.source) prefix
    b.route ≡ g =
    ap (λ (y : Side). gives_for a y (is_wide sessions p) (side_of a.config sessions b.source) prefix b.route) (sym to_is)
    ∙ ap (λ (y : Bool). gives_for a to y (side_of a.config sessions b.source) prefix b.route) (sym wide_at)
    ∙ ap (λ (y : Side). gives_for a to wide y prefix b.route)
    (ap (side_of a.config sessions) (sym number_is) ∙ sym from_is)
    ∙ ap (gives_for a to wide from prefix) (sym route_is) in
    lands a e ts x sessions prefix p tables o (λ trace. trace ++ g.trace) ready least most is manifest local items
    (λ trace.
    when_up a sessions prefix p s (Some b) all least most s_is up found trace
    ∙ ap (λ (y : Exported). advertise (setup_of a) sessions (routed trace a) p prefix y) given
    ∙ ap (λ (y : Option (List ℕ)). set_adv (record {
      routing = record (routing_of a) { engine = g.engine };
      trace = trace ++ g.trace;
    }) p prefix y) section
    ∙ ap (λ (y : Engine). set_adv (record {
      routing = record (routing_of a) { engine = y };
      trace = trace ++ g.trace;
    }) p prefix o) (sym engine))

-- a core may be used after a best route was loaded
pub ready_loaded : (a b : Core) (x : Exporting) → b ≡ record a { exporter = x } → IsReady a → IsReady b
ready_loaded a b x is ready = subst IsReady (sym is) (record {
  few = ready.few;
  local = ready.local;
  own = ready.own;
  count = ready.count;
  sources = ready.sources;
})

-- what was done before a best route was loaded is done after it
pub does_before_load : (f : Setup → Routed → Routed) (a b c : Core) (x : Exporting) → c ≡ record b { exporter = x }
    → Does f a b → Does f a c
does_before_load f a b c x is d = subst (Does f a) (sym is) (record {
  ready = ready_loaded b (record b { exporter = x }) x refl d.ready;
  setup = d.setup;
  routing = d.routing;
})

-- what is done after a best route was loaded is done from before it
pub does_after_load : (f : Setup → Routed → Routed) (a b c : Core) (x : Exporting) → b ≡ record a { exporter = x }
    → Does f b c → Does f a c
does_after_load f a b c x is d =
    let from : Does f (record a { exporter = x }) c = subst (λ (y : Core). Does f y c) is d in
    record { ready = from.ready; setup = from.setup; routing = from.routing }

-- a best route that was loaded is there while best routes and the loaded one stay
pub loaded_still : (a b : Core) (prefix : Prefix) (source : Option ℕ) → b.best.entries ≡ a.best.entries
    → (b.exporter).best ≡ (a.exporter).best → IsLoaded a prefix source → IsLoaded b prefix source
loaded_still a b prefix source best route loaded = record {
  best =
      ap (λ (es : List (Prefix × Chosen)). value_at prefix_cmp es prefix) best ∙ loaded.best
      ∙ ap (λ (r : Route). option_map (λ n. record { source = n; route = r }) source) (sym route);
  sound = subst (λ (r : Route). IfSome source (λ n. IsSound r)) (sym route) loaded.sound;
}

-- the best route of a prefix that was loaded
abbrev pub loaded_best : Core → ℕ → Chosen
loaded_best a n = record { source = n; route = (a.exporter).best }

pub loaded_found : (a : Core) (prefix : Prefix) (source : Option ℕ) (n : ℕ) → IsLoaded a prefix source
    → source ≡ Some n → value_at prefix_cmp a.best.entries prefix ≡ Some (loaded_best a n)
loaded_found a prefix source n loaded is = loaded.best ∙ ap (option_map (loaded_best a)) is

pub loaded_missing : (a : Core) (prefix : Prefix) (source : Option ℕ) → IsLoaded a prefix source → source ≡ None
    → value_at prefix_cmp a.best.entries prefix ≡ None
loaded_missing a prefix source loaded is = loaded.best ∙ ap (option_map (loaded_best a)) is

-- The routes' half as the sessions' half sees it.
use Rattle.std.proofs.Common.{◌≡◌, sym, ◌∙◌, ap, subst, ℕ, ◌≤◌, ◌<◌, ◌-◌, List, length, arith, Vec}
use Rattle.std.proofs.Common.{Bool, Option, Some, None}
use Rattle.std.specs.Prelude.{Result, Ok, Err, IfSome, OnOk, is_some, slice_index_or}
use Rattle.std.specs.List.{slice_set}
use Rattle.std.specs.List.Sorted.{IsStrictlySortedBy}
use Rattle.std.specs.declared.alloc.AllocError.{AllocError}
use Rattle.std.specs.declared.alloc.Global.{Global}
use Rattle.std.proofs.lemmas.List.{set-get_or, get_or-set_same}
use Rattle.std.proofs.Math.ListN.{length-set}
use Rattle.xb_domain.specs.declared.output.Packing.TheVariants.{Sorted}
use Rattle.xb_values.specs.Buffers.{Buffer}
use Rattle.xb_words.specs.Table.{IsRising}
use Rattle.bgp_write.specs.Pending.{Formed, form, pending}
use Rattle.bgp_write.specs.Written.{Replaces}
use Rattle.out_sorted.specs.Told.{told_after, written_after}
use Rattle.xbgp_maps.specs.Mappings.{Mapping, IsMapping, key_cmp}
use Rattle.spk_model.specs.declared.host.Setup.{Setup}
use Rattle.spk_model.specs.Readers.{entries_in}
use Rattle.spk_model.specs.Routing.{Routing, Routed, Tables, no_tables, tables_of, with_tables}
use Rattle.spk_session.specs.Routed.{waiting, Reroutes, Tells}
use Rattle.host_listed.specs.declared.routing.Core.{Core}
use Rattle.host_listed.specs.Meaning.{Goes, IsReady, setup_of, routing_of}
use Rattle.host_listed.proofs.ExportLemmas.{tables_at}

-- what is seen of a core
abbrev pub seen : Core → Setup × Routing
seen c = (setup_of c, routing_of c)

-- the peers of a core are those that are seen
pub peers_seen : (a : Core) (v : Setup × Routing) → seen a ≡ v
    → length ((v.0).config).peers ≡ length a.config.peers
peers_seen a v is = ap (λ (x : Setup × Routing). length ((x.0).config).peers) (sym is)

-- a core that went on may be used again
pub goes_ready : (r : Result (Unit {0}) AllocError) (step : Setup → Routed → Routed) (a b : Core) → Goes r step a b
    → IsReady b
goes_ready (Ok u) step a b goes = goes.ready
goes_ready (Err e) step a b goes = goes

-- its setup stays
pub goes_setup : (r : Result (Unit {0}) AllocError) (step : Setup → Routed → Routed) (a b : Core) (v : Setup × Routing)
    → seen a ≡ v → Goes r step a b → OnOk r (setup_of b ≡ v.0)
goes_setup (Ok u) step a b v is goes = goes.setup ∙ ap (λ (x : Setup × Routing). x.0) is
goes_setup (Err e) step a b v is goes = tt

-- and its routes went on
pub goes_routes : (r : Result (Unit {0}) AllocError) (step : Setup → Routed → Routed) (a b : Core) (v : Setup × Routing)
    → seen a ≡ v → Goes r step a b → OnOk r (Reroutes (step v.0) v.1 (routing_of b))
goes_routes (Ok u) step a b v is goes =
    subst (λ (x : Setup × Routing). Reroutes (step x.0) x.1 (routing_of b)) is goes.routing
goes_routes (Err e) step a b v is goes = tt

-- the next message of a peer, by the tables that it leaves
pub tells_tables : (o : Option Formed) (r : Routing) (p : ℕ) (new : Tables) (out written : Buffer) (result : Bool)
    → result ≡ is_some o → new ≡ record (tables_of r p) { told = told_after o (tables_of r p).told }
    → Replaces out written (written_after o out.octets)
    → Tells o p r (with_tables r p new) out written result
tells_tables None r p new out written result formed told wrote = (
  formed,
  ap (λ (t : Tables). with_tables r p t) told
      ∙ ap (λ (l : List Tables). record r { tables = l }) (set-get_or r.tables (p - 1) no_tables),
  wrote,
)
tells_tables (Some f) r p new out written result formed told wrote = (formed, ap (with_tables r p) told, wrote)

-- the tables of a peer change
abbrev pub told_core : Core → Vec Tables Global → Core
told_core a ts = record a { peers = ts }

module _ (a : Core) (p : ℕ) (tables : Tables) (ready : IsReady a) (least : 1 ≤ p) (most : p ≤ length a.config.peers)
    (is : tables ≡ slice_index_or a.peers.items (p - 1) tables) where
  -- they are those of its number
  pub tables_seen : tables ≡ tables_of (routing_of a) p
  tables_seen =
      tables_at a.peers.items p tables least (subst (λ (n : ℕ). p ≤ n) (sym ready.count) most) is

  -- a core with other tables may be used again
  pub ready_told : (ts : Vec Tables Global) (new : Tables) → ts.items ≡ slice_set a.peers.items (p - 1) new
      → IsReady (told_core a ts)
  ready_told ts new items = record {
    few = ready.few;
    local = ready.local;
    own = ready.own;
    count = ap length items ∙ length-set a.peers.items (p - 1) new ∙ ready.count;
    sources = ready.sources;
  }

  -- the next message of a peer
  pub core_tells : (new : Tables) (out written : Buffer) (result : Bool)
      → result ≡ is_some (form Sorted tables.adv tables.told)
      → new ≡ record tables { told = told_after (form Sorted tables.adv tables.told) tables.told }
      → Replaces out written (written_after (form Sorted tables.adv tables.told) out.octets)
      → Tells (form Sorted (tables_of (routing_of a) p).adv (tables_of (routing_of a) p).told) p
      (routing_of a) (with_tables (routing_of a) p new) out written result
  core_tells new out written result formed told wrote =
      tells_tables (form Sorted (tables_of (routing_of a) p).adv (tables_of (routing_of a) p).told) (routing_of a) p
      new out written result
      (subst (λ (t : Tables). result ≡ is_some (form Sorted t.adv t.told)) tables_seen formed)
      (subst (λ (t : Tables). new ≡ record t { told = told_after (form Sorted t.adv t.told) t.told }) tables_seen told)
      (subst (λ (t : Tables). Replaces out written (written_after (form Sorted t.adv t.told) out.octets)) tables_seen
      wrote)

  -- and fewer prefixes wait
  pub core_less : (new : Tables) → length (pending new.adv new.told) < length (pending tables.adv tables.told)
      → length (waiting (with_tables (routing_of a) p new) p) < length (waiting (routing_of a) p)
  core_less new less =
      let count : length a.peers.items ≡ length a.config.peers = ready.count in
      let inside : p - 1 < length a.peers.items = omega arith in
      let got : tables_of (with_tables (routing_of a) p new) p ≡ new =
      get_or-set_same a.peers.items (p - 1) new no_tables inside in
      subst (λ (t : Tables). length (pending t.adv t.told) < length (waiting (routing_of a) p)) (sym got)
      (subst (λ (t : Tables). length (pending new.adv new.told) < length (pending t.adv t.told)) tables_seen less)

-- the keys of a map rise
pub rising_in : (o : Option Mapping) → IfSome o IsMapping → IsRising key_cmp (entries_in o)
unfolding IsStrictlySortedBy
rising_in None known = tt
rising_in (Some m) known = known.rising

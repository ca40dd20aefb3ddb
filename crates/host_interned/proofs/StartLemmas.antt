-- The routes before the first event.
use Rattle.std.proofs.Common.{◌≡◌, ◌≤◌, ◌+◌, refl, sym, ◌∙◌, ap, subst, ℕ, Bool, true, List, [], ◌∷◌, drop, map}
use Rattle.std.proofs.Common.{length, replicate, arith, Some}
use Rattle.std.specs.Prelude.{if◌then◌else◌, nat_le, slice_get}
use Rattle.std.specs.List.{AllByRecursion}
use Rattle.std.proofs.lemmas.List.{length-map, drop_all}
use Rattle.std.proofs.lemmas.Simd.{splat_is_map}
use Rattle.xb_words.specs.Octets.{four_octets}
use Rattle.xb_words.specs.Table.{with_value}
use Rattle.xb_words.proofs.TableLemmas.{AllByRecursion-with_value}
use Rattle.xb_values.specs.Prefixes.{Prefix, prefix_cmp}
use Rattle.bgp_attr.specs.declared.TheConstants.{MAX_CANONICAL}
use Rattle.bgp_attr.specs.Routes.{Route, canon, with_attribute}
use Rattle.xbgp_config.specs.Configs.{Config, IsConfig}
use Rattle.xbgp_view.specs.Views.{Edited}
use Rattle.xbgp_manifest.specs.Manifests.{Manifest}
use Rattle.xbgp_points.specs.Engines.{started, Kept}
use Rattle.spk_model.specs.declared.host.Setup.{Setup}
use Rattle.spk_model.specs.Sources.{local_route}
use Rattle.spk_model.specs.Routing.{Chosen, Routing, no_tables}
use Rattle.spk_model.specs.Turning.{start_routing}
use Rattle.spk_routes.proofs.StepLemmas.{drop-at}
use Rattle.host_interned.specs.declared.routing.Core.{Core}
use Rattle.host_interned.specs.Ribs.{RibView, Shows}
use Rattle.host_interned.specs.Starting.{with_networks, IsFirst, IsStarted}
use Rattle.host_interned.proofs.ShownLemmas.{routing_with}

-- whether a route with an attribute set fits
abbrev fits : Route → ℕ → ℕ → List ℕ → Bool
fits route code flags value = nat_le (length (canon (with_attribute route code flags value))) MAX_CANONICAL

-- an attribute is set if it fits
abbrev Sets : Edited → Edited → ℕ → ℕ → List ℕ → Type 0
Sets old new code flags value =
    new ≡ (if fits old.route code flags value
    then record old { route = with_attribute old.route code flags value } else old)

route-set : (route : Route) (old new : Edited) (code flags : ℕ) (value : List ℕ) → old.route ≡ route
    → fits route code flags value ≡ true → Sets old new code flags value
    → new.route ≡ with_attribute route code flags value
route-set route old new code flags value is small sets =
    let here : fits old.route code flags value ≡ true =
    subst (λ (r : Route). fits r code flags value ≡ true) (sym is) small in
    let set : Bool → Edited =
    λ (b : Bool). if b then record old { route = with_attribute old.route code flags value } else old in
    ap (λ (v : Edited). v.route) (sets ∙ ap set here) ∙ ap (λ (r : Route). with_attribute r code flags value) is

-- the route of a local network, from an empty one by three attributes
pub local_route-from : (config : Config) (none one two three : Edited) (value : List ℕ)
    → none ≡ record { route = []; kept = [] } → value ≡ four_octets (config.local).address
    → Sets none one 1 64 (0 ∷ []) → Sets one two 2 64 [] → Sets two three 3 64 value
    → three.route ≡ local_route config
local_route-from config none one two three value none_is value_is origin path hop =
    let first : one.route ≡ with_attribute [] 1 64 (0 ∷ []) =
    route-set [] none one 1 64 (0 ∷ []) (ap (λ (v : Edited). v.route) none_is) refl origin in
    let second : two.route ≡ with_attribute (with_attribute [] 1 64 (0 ∷ [])) 2 64 [] =
    route-set (with_attribute [] 1 64 (0 ∷ [])) one two 2 64 [] first refl path in
    route-set (with_attribute (with_attribute [] 1 64 (0 ∷ [])) 2 64 []) two three 3 64
    (four_octets (config.local).address) second refl (subst (Sets two three 3 64) value_is hop)

-- the speaker's own route as a best route
abbrev pub own_chosen : Route → Chosen
own_chosen r = record { source = 0; route = r }

-- one network more, and after all of them
pub with_networks-next : (own : Route) (ns : List Prefix) (i : ℕ) (p : Prefix) (best new all : List (Prefix × Chosen))
    → slice_get ns i ≡ Some p → new ≡ with_value prefix_cmp best p (own_chosen own)
    → with_networks own best (drop i ns) ≡ all → with_networks own new (drop (i + 1) ns) ≡ all
with_networks-next own ns i p best new all is new_is so_far =
    ap (λ (b : List (Prefix × Chosen)). with_networks own b (drop (i + 1) ns)) new_is
    ∙ sym (ap (with_networks own best) (drop-at ns i p is))
    ∙ so_far

pub with_networks-end : (own : Route) (ns : List Prefix) (i : ℕ) (best all : List (Prefix × Chosen)) → length ns ≤ i
    → with_networks own best (drop i ns) ≡ all → best ≡ all
with_networks-end own ns i best all end so_far = sym (ap (with_networks own best) (drop_all i ns end)) ∙ so_far

-- a network's source is the speaker, whose number is 0
with_networks-sources : (own : Route) (ns : List Prefix) (n : ℕ) (best : List (Prefix × Chosen))
    → AllByRecursion (λ e. e.1.source ≤ n) best → AllByRecursion (λ e. e.1.source ≤ n) (with_networks own best ns)
with_networks-sources own [] n best all = all
with_networks-sources own (p ∷ ns) n best all =
    with_networks-sources own ns n (with_value prefix_cmp best p (own_chosen own))
    (AllByRecursion-with_value prefix_cmp (λ e. e.1.source ≤ n) best p (own_chosen own)
    (omega (arith)) (λ e same here. omega (arith)) all)

-- a rib before the first event, from a new one and the networks that became best
pub is_first : (config : Config) (one two : RibView) (own : Route) (n : ℕ) (networks : List Prefix)
    → own ≡ local_route config → n ≡ length config.peers → networks ≡ config.networks
    → Shows own [] (replicate n no_tables) one
    → Shows one.own (with_networks one.own one.best networks) one.tables two → IsFirst config two
is_first config one two own n networks own_is n_is networks_is made set = record {
  own_is = set.own_is ∙ made.own_is ∙ own_is;
  best_is = set.best_is
      ∙ ap (λ (r : Route). with_networks r one.best networks) (made.own_is ∙ own_is)
      ∙ ap (λ (b : List (Prefix × Chosen)). with_networks (local_route config) b networks) made.best_is
      ∙ ap (with_networks (local_route config) []) networks_is;
  tables_are = set.tables_are ∙ made.tables_are ∙ ap (λ (k : ℕ). replicate k no_tables) n_is;
}

abbrev setup_with : Config → Manifest → Setup
setup_with k m = record { config = k; manifest = m }

-- a core of a first rib, and of an engine that was not called yet
pub is_started : (setup : Setup) (r : RibView) (c : Core) → IsConfig setup.config → IsFirst setup.config r
    → c.config ≡ setup.config → c.engine ≡ started setup.manifest (setup.config).local → c.rib ≡ r → IsStarted setup c
is_started setup r c kept first config engine rib =
    let tables : c.rib.tables ≡ map (λ _. no_tables) (setup.config).peers =
    ap (λ (x : RibView). x.tables) rib ∙ first.tables_are
    ∙ splat_is_map (setup.config).peers (length (setup.config).peers) no_tables refl in
    let best : c.rib.best ≡ with_networks (local_route setup.config) [] (setup.config).networks =
    ap (λ (x : RibView). x.best) rib ∙ first.best_is in
    let start : Routing = start_routing setup in
    record {
      ready = record {
        few = subst (λ (k : Config). length k.peers ≤ 64) (sym config) kept.few_peers;
        local = ap (λ (e : Kept). e.local) engine ∙ sym (ap (λ (k : Config). k.local) config);
        own = ap (λ (x : RibView). x.own) rib ∙ first.own_is ∙ ap local_route (sym config);
        count = ap length tables ∙ length-map (setup.config).peers (λ _. no_tables)
            ∙ sym (ap (λ (k : Config). length k.peers) config);
        sources = subst (AllByRecursion (λ (e : Prefix × Chosen). e.1.source ≤ length (c.config).peers)) (sym best)
            (with_networks-sources (local_route setup.config) (setup.config).networks (length (c.config).peers) []
            tt);
      };
      made_of = ap (λ (k : Config). setup_with k c.engine.manifest) config
          ∙ ap (λ (e : Kept). setup_with setup.config e.manifest) engine;
      routes = ap (λ (b : List (Prefix × Chosen)). routing_with b c.engine.engine c.rib.tables) best
          ∙ ap (λ (e : Kept). routing_with start.best e.engine c.rib.tables) engine
          ∙ ap (routing_with start.best start.engine) tables;
    }

-- Walks over tables by their prefixes, and the sets that they make.
use Rattle.std.proofs.Common.{◌≡◌, ◌<◌, ◌≤◌, ◌+◌, ◌-◌, get_or, refl, sym, ◌∙◌, ap, ℕ, List, [], ◌∷◌, ◌++◌}
use Rattle.std.proofs.Common.{drop, fold, flat_map, length, arith, Option, Some, None}
use Rattle.std.specs.Map.{keys_of}
use Rattle.std.specs.Option.{option_map}
use Rattle.std.specs.Prelude.{slice_get}
use Rattle.std.proofs.lemmas.List.{at_drop_more, drop_all, append_assoc, append-nil}
use Rattle.std.proofs.lemmas.List.Sums.{fold-append}
use Rattle.xb_words.specs.Table.{entries_after, entry_after, set_of, with_key, with_keys, IsRising}
use Rattle.xb_words.proofs.TableLemmas.{entries_after-some, entries_after-none}
use Rattle.xb_values.specs.Prefixes.{Prefix, prefix_cmp}
use Rattle.bgp_fsm.specs.Sessions.{Owned}
use Rattle.spk_model.specs.Routing.{Tables, no_tables, set_tables, settle, settle_all, lose}
use Rattle.spk_model.specs.Turning.{known_prefixes}
use Rattle.xb_values.proofs.PrefixLemmas.{prefix_total}
use Rattle.spk_routes.proofs.StepLemmas.{drop-at}
use Rattle.host_interned.specs.declared.routing.Core.{Core}
use Rattle.host_interned.specs.Ribs.{RibView, Shows, with_peer}
use Rattle.host_interned.specs.Meaning.{Does, IsReady, setup_of, routed}
use Rattle.host_interned.proofs.ShownLemmas.{changed_core, ready_with_peer, routing_shown}
use Rattle.host_interned.proofs.FollowingLemmas.{does_same, does_then}

the_key : {X : Type 0} (o : Option (Prefix × X)) (p : Prefix) → Some p ≡ option_map (λ e. e.0) o
    → (x : X) × (o ≡ Some (p, x))
the_key None p is = absurd (cc is)
the_key (Some e) p is = (e.1, let same : p ≡ e.0 = cc is in ap (λ (q : Prefix). Some (q, e.1)) (sym same))

no_key : {X : Type 0} (o : Option (Prefix × X)) → None ≡ option_map (λ e. e.0) o → o ≡ None
no_key None is = refl
no_key (Some e) is = absurd (cc is)

module _ {X : Type 0} (es : List (Prefix × X)) (rising : IsRising prefix_cmp es) where
  -- one prefix of a walk
  pub walked : (after : Option Prefix) (p : Prefix) → Some p ≡ option_map (λ e. e.0) (entry_after prefix_cmp es after)
      → keys_of (entries_after prefix_cmp es after) ≡ p ∷ keys_of (entries_after prefix_cmp es (Some p))
  walked after p is =
      let e = the_key (entry_after prefix_cmp es after) p is in
      ap keys_of (entries_after-some prefix_cmp prefix_total es after (p, e.0) rising e.1)

  -- fewer are left
  pub walked_less : (after : Option Prefix) (p : Prefix)
      → Some p ≡ option_map (λ e. e.0) (entry_after prefix_cmp es after)
      → length (entries_after prefix_cmp es (Some p)) < length (entries_after prefix_cmp es after)
  walked_less after p is =
      let e = the_key (entry_after prefix_cmp es after) p is in
      let l = ap length (entries_after-some prefix_cmp prefix_total es after (p, e.0) rising e.1) in
      omega (arith, l)

  -- the end of a walk
  pub walked_all : (after : Option Prefix) → None ≡ option_map (λ e. e.0) (entry_after prefix_cmp es after)
      → keys_of (entries_after prefix_cmp es after) ≡ []
  walked_all after is =
      ap keys_of (entries_after-none prefix_cmp prefix_total es after
      (no_key (entry_after prefix_cmp es after) is))

-- one key more of a list that is finished by others
pub key_then : (items new left rest all : List Prefix) (p : Prefix) → left ≡ p ∷ rest → new ≡ items ++ p ∷ []
    → items ++ left ≡ all → new ++ rest ≡ all
key_then items new left rest all p is new_is so_far =
    ap (λ (l : List Prefix). l ++ rest) new_is
    ∙ append_assoc items (p ∷ []) rest
    ∙ sym (ap (λ (l : List Prefix). items ++ l) is)
    ∙ so_far

-- all keys
pub keys_all : (items left all : List Prefix) → left ≡ [] → items ++ left ≡ all → items ≡ all
keys_all items left all is so_far = sym (append-nil items) ∙ sym (ap (λ (l : List Prefix). items ++ l) is) ∙ so_far

-- one key more of a set that is finished by others
pub one_key : (set new ks rest all : List Prefix) (p : Prefix) → ks ≡ p ∷ rest → new ≡ with_key prefix_cmp set p
    → with_keys prefix_cmp set ks ≡ all → with_keys prefix_cmp new rest ≡ all
one_key set new ks rest all p is new_is so_far =
    ap (λ (s : List Prefix). with_keys prefix_cmp s rest) new_is ∙ sym (ap (with_keys prefix_cmp set) is) ∙ so_far

-- keys after keys
pub keys_then : (set ks ls : List Prefix)
    → with_keys prefix_cmp set (ks ++ ls) ≡ with_keys prefix_cmp (with_keys prefix_cmp set ks) ls
keys_then set ks ls = fold-append (with_key prefix_cmp) set ks ls

-- one network more
pub network_then : (ns : List Prefix) (i : ℕ) (p : Prefix) (set new all : List Prefix) → slice_get ns i ≡ Some p
    → new ≡ with_key prefix_cmp set p → with_keys prefix_cmp set (drop i ns) ≡ all
    → with_keys prefix_cmp new (drop (i + 1) ns) ≡ all
network_then ns i p set new all is new_is so_far =
    one_key set new (drop i ns) (drop (i + 1) ns) all p (drop-at ns i p is) new_is so_far

-- the prefixes that a peer sent or is advertised
abbrev pub known_of : Tables → List Prefix
known_of t = keys_of t.adjin ++ keys_of t.adv

-- one peer more
pub known_then : (ts : List Tables) (i : ℕ) (t : Tables) (set new all : List Prefix) → i < length ts → t ≡ get_or ts i t
    → new ≡ with_keys prefix_cmp set (known_of t) → with_keys prefix_cmp set (flat_map known_of (drop i ts)) ≡ all
    → with_keys prefix_cmp new (flat_map known_of (drop (i + 1) ts)) ≡ all
known_then ts i t set new all inside is new_is so_far =
    let rest : List Prefix = flat_map known_of (drop (i + 1) ts) in
    let here : flat_map known_of (drop i ts) ≡ known_of t ++ rest =
    at_drop_more (flat_map known_of) ts i t inside ∙ ap (λ (x : Tables). known_of x ++ rest) (sym is) in
    ap (λ (s : List Prefix). with_keys prefix_cmp s rest) new_is
    ∙ sym (keys_then set (known_of t) rest)
    ∙ sym (ap (with_keys prefix_cmp set) here)
    ∙ so_far

-- the networks, before any peer
pub known_first : (ns start new ks : List Prefix) → start ≡ [] → new ≡ with_keys prefix_cmp start ns
    → with_keys prefix_cmp new ks ≡ set_of prefix_cmp (ns ++ ks)
known_first ns start new ks none new_is =
    ap (λ (s : List Prefix). with_keys prefix_cmp s ks)
    (new_is ∙ ap (λ (s : List Prefix). with_keys prefix_cmp s ns) none)
    ∙ sym (keys_then [] ns ks)

-- after all peers
pub known_all : (ts : List Tables) (i : ℕ) (set all : List Prefix) → length ts ≤ i
    → with_keys prefix_cmp set (flat_map known_of (drop i ts)) ≡ all → set ≡ all
known_all ts i set all end so_far =
    sym (ap (λ (l : List Tables). with_keys prefix_cmp set (flat_map known_of l)) (drop_all i ts end)) ∙ so_far

-- a peer has empty tables
pub clears : (a : Core) (r : RibView) (p : ℕ) → IsReady a
    → Shows a.rib.own a.rib.best (with_peer a.rib p no_tables) r
    → Does (λ setup u. set_tables u p no_tables) a (changed_core a a.engine r a.received a.route a.exporter)
clears a r p ready shows = record {
  ready = ready_with_peer a a.engine r a.received a.route a.exporter p no_tables ready refl shows;
  setup = refl;
  routing = λ trace. routing_shown a.engine.engine a.rib.own a.rib.best (with_peer a.rib p no_tables) r shows;
}

-- a peer is lost
pub loses : (a b c : Core) (sessions : List Owned) (p : ℕ) (t : Tables) (set : List Prefix)
    → t ≡ get_or a.rib.tables (p - 1) no_tables → set ≡ set_of prefix_cmp (keys_of t.adjin)
    → Does (λ setup u. set_tables u p no_tables) a b → Does (λ setup u. fold (settle setup sessions) u set) b c
    → Does (λ setup u. lose setup sessions u p) a c
unfolding lose settle_all
loses a b c sessions p t set t_is set_is one two =
    does_same (λ setup u. fold (settle setup sessions) (set_tables u p no_tables) set)
    (λ setup u. lose setup sessions u p) a c
    (λ trace. ap (fold (settle (setup_of a) sessions) (set_tables (routed trace a) p no_tables))
    (set_is ∙ ap (λ (x : Tables). set_of prefix_cmp (keys_of x.adjin)) t_is))
    (does_then (λ setup u. set_tables u p no_tables) (λ setup u. fold (settle setup sessions) u set) a b c one two)

-- each known prefix is settled
pub rescans : (a b : Core) (sessions : List Owned) (set : List Prefix)
    → set ≡ set_of prefix_cmp (a.config.networks ++ flat_map known_of a.rib.tables)
    → Does (λ setup u. fold (settle setup sessions) u set) a b
    → Does (λ setup u. settle_all setup sessions u (known_prefixes setup u.routing)) a b
unfolding settle_all
rescans a b sessions set is d =
    does_same (λ setup u. fold (settle setup sessions) u set)
    (λ setup u. settle_all setup sessions u (known_prefixes setup u.routing)) a b
    (λ trace. ap (fold (settle (setup_of a) sessions) (routed trace a)) is) d

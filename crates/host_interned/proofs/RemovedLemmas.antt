-- What a rib shows while the routes that a peer sent are removed one after another.
use Rattle.std.proofs.Common.{◌≡◌, ◌≤◌, ◌<◌, ◌-◌, refl, sym, ◌∙◌, ap, subst, ℕ, List, [], ◌∷◌, length, arith}
use Rattle.std.proofs.Common.{Some, None, true, false, filter, get_or, set}
use Rattle.std.specs.Prelude.{not}
use Rattle.std.specs.Option.{option_map}
use Rattle.std.proofs.lemmas.Cmp.{tied_itself}
use Rattle.std.proofs.lemmas.List.{get_or-set_same, length-set, set-get_or, set-set}
use Rattle.xb_words.specs.Table.{entry_after, has_key, value_at, without}
use Rattle.xb_words.proofs.TableLemmas.{length-without}
use Rattle.xb_values.specs.Prefixes.{Prefix, prefix_cmp}
use Rattle.xb_values.proofs.PrefixLemmas.{prefix_total}
use Rattle.bgp_attr.specs.Routes.{Route}
use Rattle.xbgp_view.specs.Views.{Routes}
use Rattle.spk_model.specs.Routing.{Tables, no_tables, without_all}
use Rattle.attr_intern.specs.Pools.{Records}
use Rattle.out_grouped.specs.Told.{Told}
use Rattle.host_interned.specs.declared.chosen.Chosen.{Chosen}
use Rattle.host_interned.specs.declared.tables.PeerTables.{PeerTables}
use Rattle.host_interned.specs.Ribs.{rib_of, routes_by, tables_by, tables_in, with_peer, with_sent, RibView, Shows}
use Rattle.host_interned.proofs.KeptLemmas.{out_shows, peer_seen}

-- nothing was removed yet
pub none_removed : (v : RibView) (p : ℕ) → Shows v.own v.best (with_sent v p (tables_in v p).adjin) v
none_removed v p = record {
  own_is = refl;
  best_is = refl;
  tables_are = sym (set-get_or v.tables (p - 1) no_tables);
}

module _ (f : RibView) (p : ℕ) (least : 1 ≤ p) (most : p ≤ length f.tables) where
  -- the tables of a peer that got other routes
  pub sent_in : (s : RibView) (routes : Routes) → s.tables ≡ with_sent f p routes
      → tables_in s p ≡ record (tables_in f p) { adjin = routes }
  sent_in s routes is =
      ap (λ (ts : List Tables). get_or ts (p - 1) no_tables) is
      ∙ get_or-set_same f.tables (p - 1) (record (tables_in f p) { adjin = routes }) no_tables
      (omega (arith, least, most))

  -- there are as many tables
  pub sent_count : (s : RibView) (routes : Routes) → s.tables ≡ with_sent f p routes
      → length s.tables ≡ length f.tables
  sent_count s routes is =
      ap (λ (ts : List Tables). length ts) is
      ∙ length-set f.tables (p - 1) (record (tables_in f p) { adjin = routes })

  sent_again : (s : RibView) (routes other : Routes) → s.tables ≡ with_sent f p routes
      → with_sent s p other ≡ with_sent f p other
  sent_again s routes other is =
      ap (λ (t : Tables). set s.tables (p - 1) (record t { adjin = other })) (sent_in s routes is)
      ∙ ap (λ (ts : List Tables). set ts (p - 1) (record (tables_in f p) { adjin = other })) is
      ∙ set-set f.tables (p - 1) (record (tables_in f p) { adjin = routes }) (record (tables_in f p) { adjin = other })

  -- other routes after other routes
  pub sent_then : (s t : RibView) (routes other : Routes) → Shows f.own f.best (with_sent f p routes) s
      → Shows s.own s.best (with_sent s p other) t → Shows f.own f.best (with_sent f p other) t
  sent_then s t routes other one two = record {
    own_is = two.own_is ∙ one.own_is;
    best_is = two.best_is ∙ one.best_is;
    tables_are = two.tables_are ∙ sent_again s routes other one.tables_are;
  }

  -- one removal more
  pub removal_then : (s t : RibView) (routes other : Routes) → Shows f.own f.best (with_sent f p routes) s
      → Shows s.own s.best (with_sent s p other) t → Shows f.own f.best (with_sent f p (tables_in t p).adjin) t
  removal_then s t routes other one two =
      let shows = sent_then s t routes other one two in
      subst (λ (r : Routes). Shows f.own f.best (with_sent f p r) t)
      (sym (ap (λ (x : Tables). x.adjin) (sent_in t other shows.tables_are))) shows

-- the first route of a peer is there
first_there : (routes : Routes) (prefix : Prefix)
    → Some prefix ≡ option_map (λ e. e.0) (entry_after prefix_cmp routes None)
    → (e : Prefix × Route) × (value_at prefix_cmp routes prefix ≡ Some e.1)
first_there [] prefix is = absurd (cc is)
first_there (e ∷ es) prefix is =
    let same : prefix ≡ e.0 = cc is in
    (e, ap (value_at prefix_cmp (e ∷ es)) same ∙ rw (tied_itself prefix_total e.0) refl)

-- and its removal leaves fewer
pub fewer_routes : (routes other : Routes) (prefix : Prefix)
    → Some prefix ≡ option_map (λ e. e.0) (entry_after prefix_cmp routes None)
    → other ≡ without prefix_cmp routes prefix → length other < length routes
fewer_routes routes other prefix is other_is =
    let w = first_there routes prefix is in
    let n = length-without prefix_cmp routes prefix (w.0).1 w.1 in
    let m = ap (λ (r : Routes). length r) other_is in
    omega (arith, n, m)

-- none is left
pub no_routes : (routes : Routes) → None ≡ option_map (λ e. e.0) (entry_after prefix_cmp routes None) → routes ≡ []
no_routes [] is = refl
no_routes (e ∷ es) is = absurd (cc is)

-- ---- the prefixes of a list are removed

module _ (f : RibView) (p : ℕ) (least : 1 ≤ p) (most : p ≤ length f.tables) (s t : RibView) (prefix : Prefix)
    (so_far : Shows f.own f.best (with_sent f p (tables_in s p).adjin) s)
    (removed : Shows s.own s.best (with_sent s p (without prefix_cmp (tables_in s p).adjin prefix)) t) where
  -- the routes that are left
  pub left_in : (tables_in t p).adjin ≡ without prefix_cmp (tables_in s p).adjin prefix
  left_in =
      let other : Routes = without prefix_cmp (tables_in s p).adjin prefix in
      let shows = sent_then f p least most s t (tables_in s p).adjin other so_far removed in
      ap (λ (x : Tables). x.adjin) (sent_in f p least most t other shows.tables_are)

  -- and the prefixes that are left of a list, after its first
  pub left_then : (ps rest : List Prefix) (all : Routes) → ps ≡ prefix ∷ rest
      → without_all (tables_in s p).adjin ps ≡ all → without_all (tables_in t p).adjin rest ≡ all
  left_then ps rest all is so_far =
      ap (λ (r : Routes). without_all r rest) left_in
      ∙ sym (ap (without_all (tables_in s p).adjin) is)
      ∙ so_far

-- the end
pub all_removed : (f s : RibView) (p : ℕ) (ps : List Prefix) (all : Routes)
    → Shows f.own f.best (with_sent f p (tables_in s p).adjin) s → ps ≡ []
    → without_all (tables_in s p).adjin ps ≡ all → Shows f.own f.best (with_sent f p all) s
all_removed f s p ps all shows none left =
    subst (λ (r : Routes). Shows f.own f.best (with_sent f p r) s)
    (sym (ap (without_all (tables_in s p).adjin) none) ∙ left) shows

-- ---- the tables of a peer become empty

pub cleared : (records : Records) (own : ℕ) (cs : List (Prefix × Chosen)) (ps : List PeerTables) (w v : RibView) (p : ℕ)
    (t : PeerTables) (out : Told) → rib_of records own cs ps ≡ w → 1 ≤ p → p ≤ length v.tables
    → t ≡ get_or ps (p - 1) t → Shows v.own v.best (with_sent v p []) w → out ≡ record { adv = []; told = [] }
    → Shows v.own v.best (with_peer v p no_tables)
    (rib_of records own cs (set ps (p - 1) (record { sent = t.sent; out = out })))
cleared records own cs ps w v p t out is least most at shows out_is =
    let most_w : p ≤ length w.tables =
    subst (λ (n : ℕ). p ≤ n) (sym (sent_count v p least most w [] shows.tables_are)) most in
    let seen = peer_seen records own cs ps w p t is least most_w at in
    let none : routes_by records t.sent ≡ [] =
    sym (ap (λ (x : Tables). x.adjin) seen)
    ∙ ap (λ (x : Tables). x.adjin) (sent_in v p least most w [] shows.tables_are) in
    let same : tables_by records (record { sent = t.sent; out = out }) ≡ no_tables =
    ap (λ (o : Told). tables_by records (record { sent = t.sent; out = o })) out_is
    ∙ ap (λ (r : Routes). record { adjin = r; adv = []; told = [] }) none in
    let two = out_shows records own cs ps w p t is least most_w at out no_tables same in
    record {
      own_is = two.own_is ∙ shows.own_is;
      best_is = two.best_is ∙ shows.best_is;
      tables_are = two.tables_are
          ∙ ap (λ (ts : List Tables). set ts (p - 1) no_tables) shows.tables_are
          ∙ set-set v.tables (p - 1) (record (tables_in v p) { adjin = [] }) no_tables;
    }

-- ---- the prefixes that a set does not have

-- the first prefix of a list is one of them
pub other_first : (set rest : List Prefix) (prefix : Prefix) → has_key prefix_cmp set prefix ≡ false
    → filter (λ p. not (has_key prefix_cmp set p)) (prefix ∷ rest)
    ≡ prefix ∷ filter (λ p. not (has_key prefix_cmp set p)) rest
other_first set rest prefix is = rw is refl

-- or not
pub other_not : (set rest : List Prefix) (prefix : Prefix) → has_key prefix_cmp set prefix ≡ true
    → filter (λ p. not (has_key prefix_cmp set p)) (prefix ∷ rest)
    ≡ filter (λ p. not (has_key prefix_cmp set p)) rest
other_not set rest prefix is = rw is refl

-- The prefixes that peers sent or are advertised, in tables of ids and in those that are shown.
use Rattle.std.proofs.Common.{◌≡◌, ◌≤◌, ◌<◌, ◌+◌, refl, sym, ◌∙◌, ap, ℕ, List, [], ◌∷◌, ◌++◌, map, drop, flat_map}
use Rattle.std.proofs.Common.{get_or, length}
use Rattle.std.specs.Map.{keys_of}
use Rattle.std.proofs.lemmas.List.{at_drop_more, drop_all}
use Rattle.std.proofs.lemmas.List.Sums.{fold-append}
use Rattle.xb_words.specs.Table.{with_key, with_keys}
use Rattle.xb_values.specs.Prefixes.{Prefix, prefix_cmp}
use Rattle.spk_model.specs.Routing.{Tables}
use Rattle.attr_intern.specs.Pools.{Records}
use Rattle.host_interned.specs.declared.tables.PeerTables.{PeerTables}
use Rattle.host_interned.specs.Ribs.{meant, routes_by, tables_by}
use Rattle.host_interned.proofs.MappedLemmas.{keys-mapped}

-- keys after keys
pub keys_more : (set middle new ks ls : List Prefix) → middle ≡ with_keys prefix_cmp set ks
    → new ≡ with_keys prefix_cmp middle ls → new ≡ with_keys prefix_cmp set (ks ++ ls)
keys_more set middle new ks ls one two =
    two
    ∙ ap (λ (s : List Prefix). with_keys prefix_cmp s ls) one
    ∙ sym (fold-append (with_key prefix_cmp) set ks ls)

module _ {T : Type 0} (f : T → List Prefix) where
  -- the keys of one more
  pub known_more : (ts : List T) (i : ℕ) (t : T) (set new all : List Prefix) → i < length ts → t ≡ get_or ts i t
      → new ≡ with_keys prefix_cmp set (f t) → with_keys prefix_cmp set (flat_map f (drop i ts)) ≡ all
      → with_keys prefix_cmp new (flat_map f (drop (i + 1) ts)) ≡ all
  known_more ts i t set new all inside is new_is so_far =
      let rest : List Prefix = flat_map f (drop (i + 1) ts) in
      let here : flat_map f (drop i ts) ≡ f t ++ rest =
      at_drop_more (flat_map f) ts i t inside ∙ ap (λ (x : T). f x ++ rest) (sym is) in
      ap (λ (s : List Prefix). with_keys prefix_cmp s rest) new_is
      ∙ sym (fold-append (with_key prefix_cmp) set (f t) rest)
      ∙ sym (ap (with_keys prefix_cmp set) here)
      ∙ so_far

  -- and of all
  pub known_end : (ts : List T) (i : ℕ) (set all : List Prefix) → length ts ≤ i
      → with_keys prefix_cmp set (flat_map f (drop i ts)) ≡ all → set ≡ all
  known_end ts i set all end so_far =
      sym (ap (λ (l : List T). with_keys prefix_cmp set (flat_map f l)) (drop_all i ts end)) ∙ so_far

-- what is known by ids
abbrev pub known_by : PeerTables → List Prefix
known_by t = keys_of t.sent ++ keys_of (t.out).adv

-- and as it is shown
abbrev pub known_in : Tables → List Prefix
known_in t = keys_of t.adjin ++ keys_of t.adv

-- the prefixes that a peer sent
pub keys_shown : (records : Records) (sent : List (Prefix × ℕ)) → keys_of (routes_by records sent) ≡ keys_of sent
keys_shown records sent = keys-mapped prefix_cmp (meant records) sent

pub known_shown : (records : Records) (ps : List PeerTables)
    → flat_map known_in (map (tables_by records) ps) ≡ flat_map known_by ps
known_shown records [] = refl
known_shown records (t ∷ ts) =
    ap (λ (ks : List Prefix). (ks ++ keys_of (t.out).adv) ++ flat_map known_in (map (tables_by records) ts))
    (keys_shown records t.sent)
    ∙ ap (λ (l : List Prefix). known_by t ++ l) (known_shown records ts)

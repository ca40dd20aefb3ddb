-- What a rib shows if its records change, and the ids that it holds mean the same.
use Rattle.std.proofs.Common.{◌≡◌, ◌≤◌, refl, ◌∙◌, ap, ℕ, List, [], ◌∷◌, map, arith, inl, inr}
use Rattle.std.specs.List.{sum_by, AllByRecursion}
use Rattle.std.specs.Map.{values_of}
use Rattle.std.proofs.lemmas.Bool.Decides.{eqb_tells}
use Rattle.std.proofs.lemmas.List.Sums.{sum_by-cons}
use Rattle.xb_values.specs.Prefixes.{Prefix}
use Rattle.xbgp_view.specs.Views.{Routes}
use Rattle.spk_model.specs.Routing.{Tables}
use Rattle.attr_intern.specs.Pools.{Records, route_at}
use Rattle.host_interned.specs.declared.chosen.Chosen.{Chosen}
use Rattle.host_interned.specs.declared.tables.PeerTables.{PeerTables}
use Rattle.host_interned.specs.Ribs.{best_by, meant, rib_of, route_or, same_id, tables_by, times_held}
use Rattle.host_interned.specs.Ribs.{times_sent, Shows}
use Rattle.host_interned.proofs.OwnerLemmas.{best_by-same, routes_by-same}

-- what is held means the same
abbrev pub KeepsMeaning : Records → Records → (ℕ → ℕ) → Type 0
KeepsMeaning old new held = (id : ℕ) → 1 ≤ held id → route_at new id ≡ route_at old id

pub same_self : (id : ℕ) → same_id id id ≡ 1
same_self id = elim (eqb_tells id id) [
  | inl here ↦ rw here.0 refl
  | inr apart ↦ absurd (apart.1 refl)
]

-- what holds of each id that entries hold holds of all of them
pub held_each : {X : Type 0} (id_of : X → ℕ) (P : ℕ → Type 0) (es : List (Prefix × X))
    → ((id : ℕ) → 1 ≤ sum_by (λ x. same_id id (id_of x)) (values_of es) → P id) → AllByRecursion (λ e. P (id_of e.1)) es
held_each id_of P [] each = tt
held_each id_of P (e ∷ es) each = (
  each (id_of e.1)
      (let one = same_self (id_of e.1) in
      omega (arith, one, sum_by-cons (λ x. same_id (id_of e.1) (id_of x)) e.1 (values_of es))),
  held_each id_of P es
      (λ id least. each id (omega (arith, least, sum_by-cons (λ x. same_id id (id_of x)) e.1 (values_of es)))),
)

tables_by-same : (old new : Records) (t : PeerTables) → KeepsMeaning old new (λ id. times_sent id t)
    → tables_by new t ≡ tables_by old t
tables_by-same old new t keeps =
    ap (λ (r : Routes). record { adjin = r; adv = (t.out).adv; told = (t.out).told })
    (routes_by-same old new t.sent (held_each (λ id. id) (λ id. route_at new id ≡ route_at old id) t.sent keeps))

all_tables-same : (old new : Records) (ts : List PeerTables) → KeepsMeaning old new (λ id. sum_by (times_sent id) ts)
    → map (tables_by new) ts ≡ map (tables_by old) ts
all_tables-same old new [] keeps = refl
all_tables-same old new (t ∷ ts) keeps =
    ap (λ (x : Tables). x ∷ map (tables_by new) ts)
    (tables_by-same old new t (λ id least. keeps id (omega (arith, least, sum_by-cons (times_sent id) t ts))))
    ∙ ap (λ (l : List Tables). tables_by old t ∷ l)
    (all_tables-same old new ts (λ id least. keeps id (omega (arith, least, sum_by-cons (times_sent id) t ts))))

-- a rib shows the same
pub shows_same : (old new : Records) (own : ℕ) (chosen : List (Prefix × Chosen)) (peers : List PeerTables)
    → KeepsMeaning old new (λ id. times_held id own chosen peers)
    → Shows (meant old own) (best_by old chosen) (map (tables_by old) peers) (rib_of new own chosen peers)
shows_same old new own chosen peers keeps = record {
  own_is = ap route_or (keeps own (let one = same_self own in omega (arith, one)));
  best_is = best_by-same old new chosen
      (held_each (λ c. c.«record») (λ id. route_at new id ≡ route_at old id) chosen
      (λ id least. keeps id (omega (arith, least))));
  tables_are = all_tables-same old new peers (λ id least. keeps id (omega (arith, least)));
}

-- Sets of prefixes, and which prefixes they have.
use Rattle.std.proofs.Common.{◌≡◌, inl, inr, refl, sym, ◌∙◌, ap, ℕ, Bool, true, false, List, [], ◌∷◌, filter}
use Rattle.std.specs.Prelude.{◌||◌, ◌&&◌, ◌==◌}
use Rattle.std.specs.List.{list_any}
use Rattle.std.specs.BTreeMap.{is_at}
use Rattle.std.specs.BTreeSet.{insert_key}
use Rattle.std.specs.Ordering.{match_ordering, nat_cmp, ordering_then, is_eq}
use Rattle.std.specs.declared.cmp.Ordering.{Ordering}
use Rattle.std.specs.declared.cmp.Ordering.TheVariants.{Less, Equal, Greater}
use Rattle.std.proofs.lemmas.Bool.Decides.{eqb_tells}
use Rattle.xb_words.specs.Table.{has_key, with_key, set_of}
use Rattle.xb_values.specs.Prefixes.{Prefix, prefix_cmp}
use Rattle.xb_values.proofs.PrefixLemmas.{prefix_total}
use Rattle.bgp_write.proofs.SetLemmas.{has_key-with_keys}
use Rattle.xbgp_config.specs.Configs.{same_prefix}
use Rattle.xbgp_view.proofs.LowerLemmas.{eq-nat_cmp, nat_cmp-equal}

-- a key is inserted as a set gets it
pub insert_key-with_key : {K : Type 0} (cmp : K → K → Ordering) (ks : List K) (k : K)
    → insert_key cmp ks k ≡ with_key cmp ks k
insert_key-with_key cmp [] k = refl
insert_key-with_key cmp (x ∷ xs) k =
    ap (λ r. match_ordering (cmp k x) (k ∷ x ∷ xs) (x ∷ xs) (x ∷ r)) (insert_key-with_key cmp xs k)

or_none : (a : Bool) → (a || false) ≡ a
or_none true = refl
or_none false = refl

not_equal : (r : Ordering) → (r ≡ Equal → ⊥) → is_eq r ≡ false
not_equal Less other = refl
not_equal Equal other = absurd (other refl)
not_equal Greater other = refl

is_eq-nat_cmp : (a b : ℕ) → is_eq (nat_cmp a b) ≡ (a == b)
is_eq-nat_cmp a b = elim (eqb_tells a b) [
  | inl here ↦ ap is_eq (nat_cmp-equal a b here.1) ∙ sym here.0
  | inr other ↦ not_equal (nat_cmp a b) (λ e. other.1 (eq-nat_cmp a b e)) ∙ sym other.0
]

is_eq-then : (r s : Ordering) → is_eq (ordering_then r s) ≡ (is_eq r && is_eq s)
is_eq-then Less s = refl
is_eq-then Equal s = refl
is_eq-then Greater s = refl

at_prefix : (q p : Prefix) → is_at (prefix_cmp q) p ≡ same_prefix q p
at_prefix q p =
    is_eq-then (nat_cmp q.addr p.addr) (nat_cmp q.len p.len)
    ∙ ap (λ b. b && is_eq (nat_cmp q.len p.len)) (is_eq-nat_cmp q.addr p.addr)
    ∙ ap (λ b. (q.addr == p.addr) && b) (is_eq-nat_cmp q.len p.len)

any_same : (q : Prefix) (ps : List Prefix) → list_any (is_at (prefix_cmp q)) ps ≡ list_any (same_prefix q) ps
any_same q [] = refl
any_same q (p ∷ ps) =
    ap (λ b. b || list_any (is_at (prefix_cmp q)) ps) (at_prefix q p)
    ∙ ap (λ b. same_prefix q p || b) (any_same q ps)

-- the set of some prefixes has those that are among them
pub has_key-set_of : (ps : List Prefix) (q : Prefix)
    → has_key prefix_cmp (set_of prefix_cmp ps) q ≡ list_any (same_prefix q) ps
has_key-set_of ps q =
    has_key-with_keys prefix_cmp prefix_total ps [] q ∙ or_none (list_any (is_at (prefix_cmp q)) ps) ∙ any_same q ps

-- tests that agree leave the same
pub filter-same : {A : Type 0} (p q : A → Bool) (xs : List A) → ((x : A) → p x ≡ q x) → filter p xs ≡ filter q xs
filter-same p q [] same = refl
filter-same p q (x ∷ xs) same = rw (same x, filter-same p q xs same) refl

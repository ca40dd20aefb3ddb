-- The owners of a record as a caller counts them.
use Rattle.std.proofs.Common.{◌≡◌, ℕ, ◌-◌, Option, Some, None, IsSome, is_some, refl, sym, ap, ◌∙◌, subst, arith}
use Rattle.std.specs.Ordering.{nat_cmp}
use Rattle.std.proofs.lemmas.Cmp.{nat_cmp_total}
use Rattle.xb_words.proofs.TableLemmas.{value_at-with_value}
use Rattle.bgp_attr.specs.Routes.{Route}
use Rattle.attr_intern.specs.Pools.{interned, one_fewer, one_more, owners_at, owners_of, record_at, released}
use Rattle.attr_intern.specs.Pools.{with_record, Owned, Records}
use Rattle.attr_intern.proofs.PoolLemmas.{one_fewer-more}

-- an id that was interned lives
pub lives_interned : (old new : Records) (id : ℕ) (route : Route) → new ≡ interned old id route
    → IsSome (record_at new id)
lives_interned old new id route is =
    ap is_some (ap (λ r. record_at r id) is ∙ value_at-with_value nat_cmp nat_cmp_total old id
    (record { route = route; owners = one_more (owners_at old id) }))

-- a record that lives does so with one owner more
shared-lives : (old new : Records) (id : ℕ) (x : Option Owned) → record_at old id ≡ x → IsSome x
    → ((o : Owned) → record_at old id ≡ Some o → new ≡ interned old id o.route) → IsSome (record_at new id)
shared-lives old new id None is lives owner = absurd (cc lives)
shared-lives old new id (Some o) is lives owner = lives_interned old new id o.route (owner o is)

pub lives_shared : (old new : Records) (id : ℕ) → IsSome (record_at old id)
    → ((o : Owned) → record_at old id ≡ Some o → new ≡ interned old id o.route) → IsSome (record_at new id)
lives_shared old new id lives owner = shared-lives old new id (record_at old id) refl lives owner

-- a record of two owners lives on when one of them gives it up
released-lives : (records : Records) (id : ℕ) (x : Option Owned) → record_at records id ≡ x → owners_of x ≡ 2
    → IsSome (record_at (released records id) id)
released-lives records id None is two = absurd (omega (arith, two))
released-lives records id (Some o) is two =
    let w : Owned = record o { owners = o.owners - 1 } in
    let left = one_fewer-more o (λ e. absurd (omega (arith, two, e))) (λ e. absurd (omega (arith, two, e))) in
    ap is_some (ap (λ y. record_at (with_record records id (one_fewer y)) id) is
    ∙ ap (λ y. record_at (with_record records id y) id) left
    ∙ value_at-with_value nat_cmp nat_cmp_total records id w)

pub lives_released : (old new : Records) (id : ℕ) → new ≡ released old id → owners_at old id ≡ 2
    → IsSome (record_at new id)
lives_released old new id is two =
    subst (λ r. IsSome (record_at r id)) (sym is) (released-lives old id (record_at old id) refl two)

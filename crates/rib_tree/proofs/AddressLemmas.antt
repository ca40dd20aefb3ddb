-- The order of prefixes by their addresses.
use Rattle.std.proofs.Common.{◌≡◌, ◌<◌, ◌≤◌, refl, sym, ap, arith}
use Rattle.std.specs.Cmp.{nat_cmp_is}
use Rattle.std.proofs.lemmas.Cmp.{ranked}
use Rattle.std.specs.Ordering.{nat_cmp, ordering_then}
use Rattle.std.specs.declared.cmp.Ordering.{Ordering}
use Rattle.std.specs.declared.cmp.Ordering.TheVariants.{Less, Equal, Greater}
use Rattle.xb_values.specs.Prefixes.{Prefix, prefix_cmp}

-- an ordering is one of three
pub by_ordering : {P : Type 0} (r : Ordering) → (r ≡ Less → P) → (r ≡ Equal → P) → (r ≡ Greater → P) → P
by_ordering Less l e g = l refl
by_ordering Equal l e g = e refl
by_ordering Greater l e g = g refl

-- a prefix of a lower address is before another
pub before_by_address : (p q : Prefix) → p.addr < q.addr → prefix_cmp p q ≡ Less
before_by_address p q lower =
    ap (λ (r : Ordering). ordering_then r (nat_cmp p.len q.len)) (sym (nat_cmp_is p.addr q.addr Less lower))

-- and one of a higher address after it
pub after_by_address : (p q : Prefix) → q.addr < p.addr → prefix_cmp p q ≡ Greater
after_by_address p q higher =
    ap (λ (r : Ordering). ordering_then r (nat_cmp p.len q.len)) (sym (nat_cmp_is p.addr q.addr Greater higher))

-- a prefix that is before another has no higher address
pub addresses_rise : (p q : Prefix) → prefix_cmp p q ≡ Less → p.addr ≤ q.addr
addresses_rise p q less =
    by_ordering (nat_cmp p.addr q.addr)
    (λ l. let lower : p.addr < q.addr = ranked p.addr q.addr Less (sym l) in omega arith)
    (λ e. let same : p.addr ≡ q.addr = ranked p.addr q.addr Equal (sym e) in omega arith)
    (λ g.
    let more : prefix_cmp p q ≡ Greater = ap (λ (r : Ordering). ordering_then r (nat_cmp p.len q.len)) g in
    absurd (cc (less, more)))

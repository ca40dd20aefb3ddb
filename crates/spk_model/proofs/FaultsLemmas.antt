-- Sets of faults, and that a chain does not look at those that were noted.
use Rattle.std.proofs.Common.{◌≡◌, refl, sym, ap, ◌∙◌, inl, inr, ℕ, Bool, true, false, List, [], ◌∷◌, cond, subst}
use Rattle.std.proofs.lemmas.Bool.{and_parts, cases_Bool}
use Rattle.std.proofs.lemmas.Cmp.{nat_cmp_total, on_total, then_total}
use Rattle.std.proofs.lemmas.Map.Lookups.{exact_pairs, exact_unsigned}
use Rattle.std.specs.Prelude.{filter}
use Rattle.std.specs.Cmp.{IsTotalOrder}
use Rattle.std.specs.List.{AllByRecursion, list_all}
use Rattle.std.specs.List.Sorted.{IsStrictlySortedBy}
use Rattle.std.specs.Ordering.{nat_cmp, ordering_reverse}
use Rattle.std.specs.declared.cmp.Ordering.TheVariants.{Less, Equal}
use Rattle.xb_words.specs.Table.{has_key, with_key}
use Rattle.xb_domain.specs.declared.point.Point.{Point}
use Rattle.bpf_machine.specs.declared.world.Cause.{Cause}
use Rattle.bpf_machine.specs.declared.world.Cause.TheVariants as causes
use Rattle.bpf_machine.specs.declared.world.End.{End}
use Rattle.bpf_machine.specs.declared.world.End.TheVariants as ends
use Rattle.xbgp_helpers.specs.Worlds.{World}
use Rattle.xbgp_manifest.specs.declared.entries.ProgramEntry.{ProgramEntry}
use Rattle.xbgp_points.specs.declared.outcome.Outcome.{Outcome}
use Rattle.xbgp_points.specs.declared.outcome.Outcome.TheVariants.{Verdict, Native, Failed}
use Rattle.xbgp_points.specs.Chains.{Chained, Faults, after_program, cause_number, chain_from, fault_cmp, is_listed}
use Rattle.xbgp_points.specs.Chains.{output_fits, run_program, with_fault}
use Rattle.spk_model.specs.Laws.{AreFaults}
use Rattle.spk_model.proofs.AdvertisedLemmas.{by_ordering}

-- ---- the order of faults

fault_total : IsTotalOrder fault_cmp
fault_total =
    then_total (on_total (λ (f : ℕ × Cause). f.0) nat_cmp_total)
    (on_total (λ (f : ℕ × Cause). cause_number f.1) nat_cmp_total)

exact_cause : (a b : Cause) → nat_cmp (cause_number a) (cause_number b) ≡ Equal → a ≡ b
exact_cause causes.Memory causes.Memory e = refl
exact_cause causes.Memory other e = absurd (cc e)
exact_cause causes.Fuel causes.Fuel e = refl
exact_cause causes.Fuel other e = absurd (cc e)
exact_cause causes.Misuse causes.Misuse e = refl
exact_cause causes.Misuse other e = absurd (cc e)
exact_cause causes.BadReturn causes.BadReturn e = refl
exact_cause causes.BadReturn other e = absurd (cc e)
exact_cause causes.BadOutput causes.BadOutput e = refl
exact_cause causes.BadOutput other e = absurd (cc e)

-- equal faults are one
fault_exact : (a b : ℕ × Cause) → fault_cmp a b ≡ Equal → a ≡ b
fault_exact a b e =
    exact_pairs nat_cmp (λ c d. nat_cmp (cause_number c) (cause_number d)) exact_unsigned exact_cause a b e

-- a fault is below all of some
abbrev IsBelow : ℕ × Cause → Faults → Type 0
IsBelow k fs = AllByRecursion (λ f. fault_cmp k f ≡ Less) fs

below-trans : (k f : ℕ × Cause) (fs : Faults) → fault_cmp k f ≡ Less → IsBelow f fs → IsBelow k fs
below-trans k f [] less below = tt
below-trans k f (g ∷ fs) less below = (fault_total.trans k f g less below.0, below-trans k f fs less below.1)

sorted-head : (f : ℕ × Cause) (fs : Faults) → AreFaults (f ∷ fs) → IsBelow f fs
unfolding IsStrictlySortedBy
sorted-head f fs sorted = sorted.0

sorted-tail : (f : ℕ × Cause) (fs : Faults) → AreFaults (f ∷ fs) → AreFaults fs
unfolding IsStrictlySortedBy
sorted-tail f fs sorted = sorted.1

sorted-cons : (f : ℕ × Cause) (fs : Faults) → IsBelow f fs → AreFaults fs → AreFaults (f ∷ fs)
unfolding IsStrictlySortedBy
sorted-cons f fs below sorted = (below, sorted)

-- ---- one fault more

all-with_key : (P : ℕ × Cause → Type 0) (fs : Faults) (k : ℕ × Cause) → AllByRecursion P fs → P k
    → AllByRecursion P (with_key fault_cmp fs k)
all-with_key P [] k all new = (new, tt)
all-with_key P (f ∷ fs) k all new = by_ordering (fault_cmp k f)
    (λ l. rw l (new, all))
    (λ q. rw q all)
    (λ g. rw g (all.0, all-with_key P fs k all.1 new))

pub of_with_key : (P : ℕ × Cause → Type 0) (fs : Faults) (k : ℕ × Cause)
    → AllByRecursion P (with_key fault_cmp fs k) → P k × AllByRecursion P fs
of_with_key P [] k all = (all.0, tt)
of_with_key P (f ∷ fs) k all = by_ordering (fault_cmp k f)
    (λ l. let here : AllByRecursion P (k ∷ f ∷ fs) = rw l at all in (here.0, here.1))
    (λ q.
    let here : AllByRecursion P (f ∷ fs) = rw q at all in
    (subst P (sym (fault_exact k f q)) here.0, here))
    (λ g.
    let here : AllByRecursion P (f ∷ with_key fault_cmp fs k) = rw g at all in
    let rest = of_with_key P fs k here.1 in
    (rest.0, (here.0, rest.1)))

pub with_key-sorted : (fs : Faults) (k : ℕ × Cause) → AreFaults fs → AreFaults (with_key fault_cmp fs k)
with_key-sorted [] k sorted = sorted-cons k [] tt sorted
with_key-sorted (f ∷ fs) k sorted =
    let head = sorted-head f fs sorted in
    let tail = sorted-tail f fs sorted in
    by_ordering (fault_cmp k f)
    (λ l. rw l (sorted-cons k (f ∷ fs) (l, below-trans k f fs l head) sorted))
    (λ q. rw q sorted)
    (λ g.
    let less : fault_cmp f k ≡ Less = fault_total.antisymm f k ∙ ap ordering_reverse g in
    rw g (sorted-cons f (with_key fault_cmp fs k) (all-with_key (λ h. fault_cmp f h ≡ Less) fs k head less)
    (with_key-sorted fs k tail)))

-- a fault that is below all is not there
below-absent : (k : ℕ × Cause) (fs : Faults) → IsBelow k fs → has_key fault_cmp fs k ≡ false
below-absent k [] below = refl
below-absent k (f ∷ fs) below = rw below.0 (below-absent k fs below.1)

-- a fault that is there changes nothing
pub with_key-known : (fs : Faults) (k : ℕ × Cause) → AreFaults fs → has_key fault_cmp fs k ≡ true
    → with_key fault_cmp fs k ≡ fs
with_key-known [] k sorted there = absurd (cc there)
with_key-known (f ∷ fs) k sorted there = by_ordering (fault_cmp k f)
    (λ l.
    let none = below-absent k (f ∷ fs) (l, below-trans k f fs l (sorted-head f fs sorted)) in
    let wrong : true ≡ false = sym there ∙ none in absurd (cc wrong))
    (λ q. rw q refl)
    (λ g. rw g (ap (λ (hs : Faults). f ∷ hs) (with_key-known fs k (sorted-tail f fs sorted) (rw g at there))))

pub all_listed : (test : ℕ × Cause → Bool) (fs : Faults) → list_all test fs ≡ true
    → AllByRecursion (λ f. test f ≡ true) fs
all_listed test [] all = tt
all_listed test (f ∷ fs) all =
    let parts = and_parts (test f) (list_all test fs) all in
    (parts.0, all_listed test fs parts.1)

-- ---- faults that pass a test

with_key-below : (k : ℕ × Cause) (fs : Faults) → IsBelow k fs → with_key fault_cmp fs k ≡ k ∷ fs
with_key-below k [] below = refl
with_key-below k (f ∷ fs) below = rw below.0 refl

below-filter : (k : ℕ × Cause) (test : ℕ × Cause → Bool) (fs : Faults) → IsBelow k fs → IsBelow k (filter test fs)
below-filter k test [] below = tt
below-filter k test (f ∷ fs) below =
    elim (cases_Bool (test f)) [
      | inl passes ↦ rw passes (below.0, below-filter k test fs below.1)
      | inr fails ↦ rw fails (below-filter k test fs below.1)
    ]

pub filter-with_key-passes : (test : ℕ × Cause → Bool) (fs : Faults) (k : ℕ × Cause) → AreFaults fs
    → test k ≡ true → filter test (with_key fault_cmp fs k) ≡ with_key fault_cmp (filter test fs) k
filter-with_key-passes test [] k sorted passes = rw passes refl
filter-with_key-passes test (f ∷ fs) k sorted passes =
    let head = sorted-head f fs sorted in
    let tail = sorted-tail f fs sorted in
    by_ordering (fault_cmp k f)
    (λ l.
    let below = below-filter k test (f ∷ fs) (l, below-trans k f fs l head) in
    let first : filter test (k ∷ f ∷ fs) ≡ k ∷ filter test (f ∷ fs) = rw passes refl in
    ap (λ (hs : Faults). filter test hs) (with_key-below k (f ∷ fs) (l, below-trans k f fs l head))
    ∙ first ∙ sym (with_key-below k (filter test (f ∷ fs)) below))
    (λ q.
    let here : test f ≡ true = subst (λ h. test h ≡ true) (fault_exact k f q) passes in
    rw (q, here, q) refl)
    (λ g.
    let rest = filter-with_key-passes test fs k tail passes in
    elim (cases_Bool (test f)) [
      | inl stays ↦ rw (g, stays, g) (ap (λ (hs : Faults). f ∷ hs) rest)
      | inr goes ↦ rw (g, goes) rest
    ])

pub filter-with_key-fails : (test : ℕ × Cause → Bool) (fs : Faults) (k : ℕ × Cause) → test k ≡ false
    → filter test (with_key fault_cmp fs k) ≡ filter test fs
filter-with_key-fails test [] k fails = rw fails refl
filter-with_key-fails test (f ∷ fs) k fails = by_ordering (fault_cmp k f)
    (λ l. rw (l, fails) refl)
    (λ q. rw q refl)
    (λ g. rw g (ap (λ (hs : Faults). cond (test f) (f ∷ hs) hs) (filter-with_key-fails test fs k fails)))

-- ---- a chain and the faults before it

-- what an outcome notes
abbrev pub noted : Outcome → Faults → Faults
noted (Failed program cause) faults = with_fault faults program cause
noted (Verdict v) faults = faults
noted Native faults = faults

-- a chain with other faults before it
abbrev pub after_faults : Faults → Chained → Chained
after_faults faults c = record { outcome = c.outcome; world = c.world; faults = noted c.outcome faults }

by_tests : (faults : Faults) (a b : Bool) (x y z x0 y0 z0 : Chained) → x ≡ after_faults faults x0
    → y ≡ after_faults faults y0 → z ≡ after_faults faults z0
    → cond a (cond b x y) z ≡ after_faults faults (cond a (cond b x0 y0) z0)
by_tests faults true true x y z x0 y0 z0 p q r = p
by_tests faults true false x y z x0 y0 z0 p q r = q
by_tests faults false b x y z x0 y0 z0 p q r = r

module _ (point : Point) (before : World) (faults : Faults) where
  after_program-noted : (rest first : World → Chained) → ((w : World) → rest w ≡ after_faults faults (first w))
      → (program : ℕ) (e : End) (w : World)
      → after_program rest point before faults program e w
      ≡ after_faults faults (after_program first point before [] program e w)
  after_program-noted rest first same program (ends.Exit r) w =
      by_tests faults (is_listed r) (output_fits point r w) _ _ _ _ _ _ refl refl refl
  after_program-noted rest first same program ends.Next w = same w
  after_program-noted rest first same program (ends.Failed cause) w = refl

  -- a chain does not look at the faults, and adds the one that it makes
  pub chain_from-noted : (window : List ℕ) (ps : List (ℕ × ProgramEntry)) (w : World)
      → chain_from point window before faults ps w ≡ after_faults faults (chain_from point window before [] ps w)
  chain_from-noted window [] w = refl
  chain_from-noted window (p ∷ ps) w =
      let ended = run_program point window p.1 w in
      after_program-noted (chain_from point window before faults ps) (chain_from point window before [] ps)
      (chain_from-noted window ps) p.0 ended.end ended.world

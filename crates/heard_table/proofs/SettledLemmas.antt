-- Sorted changes leave the table that the changes leave in turn: of each prefix both have what its last change says.
use Rattle.std.proofs.Common.{◌≡◌, ℕ, ◌≤◌, ◌⊎◌, inl, inr, Bool, true, false, List, [], ◌∷◌, Option, Some, None, refl}
use Rattle.std.proofs.Common.{sym, ◌∙◌, ap, subst, arith, zero, suc, slice_index_or, nat_lt, ◌+◌, drop}
use Rattle.std.specs.Prelude.{◌==◌}
use Rattle.std.specs.List.{All, Contains}
use Rattle.std.specs.List.Sorted.{IsNonDecreasingBy, IsPermutation, IsSorted, IsStrictlySortedBy}
use Rattle.std.specs.List.Sorted.{IsPartitionedBy, IsPartitionPoint}
use Rattle.std.specs.Option.{IfSome, IfNone, option_map}
use Rattle.std.specs.Cmp.{IsTotalOrder}
use Rattle.std.specs.Ordering.{is_eq, is_le, is_lt, nat_cmp, ordering_reverse}
use Rattle.std.specs.declared.cmp.Ordering.TheVariants.{Less, Greater}
use Rattle.std.proofs.lemmas.Bool.{cases_Bool, and_parts, eqb-true, eq-eqb, ltb-false}
use Rattle.std.proofs.lemmas.Cmp.{alike_right, tied_itself, nat_cmp_total, on_total, then_total}
use Rattle.std.proofs.lemmas.List.Elements.{All-nil, All-cons, All-head, All-tail, All-weaker, All-contains}
use Rattle.std.proofs.lemmas.List.Elements.{Contains-append_right}
use Rattle.std.proofs.lemmas.List.Sorted.{All-permutation, Contains-permutation, ranks_by, sorted_far}
use Rattle.xb_words.specs.Table.{value_at, entries_after, first_of, IsRising}
use Rattle.std.proofs.Math.Seq.{drop-nil}
use Rattle.xb_words.proofs.TableLemmas.{IsRising-with_value, IsRising-without, value_at-with_value}
use Rattle.xb_words.proofs.TableSplitLemmas.{Each, IsRising-cons, value_at-above, less_from_greater}
use Rattle.xb_values.specs.Prefixes.{Prefix, Sections, prefix_cmp}
use Rattle.xb_values.proofs.PrefixLemmas.{prefix_total, prefix_exact}
use Rattle.heard_table.specs.Steps.{change}
use Rattle.heard_table.specs.Changes.{change_cmp, IsInTurn, part_at, played, begins_with, with_first, settled}
use Rattle.heard_table.specs.declared.change.Change.{Change}
use Rattle.heard_table.proofs.EntryLemmas.{by_ordering, same_values, value_at-with_value-other, value_at-without}
use Rattle.heard_table.proofs.EntryLemmas.{value_at-without-other}

-- the last change of a prefix, by its part
record IsLast (cs : List Change) (p : Prefix) (c : Change) : Type 0 where
  there : Contains cs c
  here : c.prefix ≡ p
  top : All (λ d. d.prefix ≡ p → d.part ≤ c.part) cs

-- no change is of that prefix
abbrev Untouched : List Change → Prefix → Type 0
Untouched cs p = All (λ d. d.prefix ≡ p → ⊥) cs

module _ (parts : List (Option (List ℕ))) where
  -- what a prefix has after changes: what it had before, or what its last change says
  abbrev Leaves : List Change → Prefix → Option (List ℕ) → Option (List ℕ) → Type 0
  Leaves cs p before after =
      (Untouched cs p × (after ≡ before)) ⊎ ((c : Change) × IsLast cs p c × (after ≡ part_at parts c.part))

  -- the order of the changes does not matter
  Leaves-permutation : (xs ys : List Change) (p : Prefix) (before after : Option (List ℕ)) → IsPermutation xs ys
      → Leaves xs p before after → Leaves ys p before after
  Leaves-permutation xs ys p before after moved (inl (none, is)) =
      inl (All-permutation (λ d. d.prefix ≡ p → ⊥) xs ys moved none, is)
  Leaves-permutation xs ys p before after moved (inr (c, last, is)) = inr (
    c,
    record {
      there = Contains-permutation xs ys c moved last.there;
      here = last.here;
      top = All-permutation (λ d. d.prefix ≡ p → d.part ≤ c.part) xs ys moved last.top;
    },
    is,
  )

  -- and they leave one value
  Leaves-one : (cs : List Change) (p : Prefix) (before x y : Option (List ℕ)) → Leaves cs p before x
      → Leaves cs p before y → x ≡ y
  Leaves-one cs p before x y (inl (none, is)) (inl (nor, too)) = is ∙ sym too
  Leaves-one cs p before x y (inl (none, is)) (inr (d, last, too)) =
      absurd (All-contains (λ e. e.prefix ≡ p → ⊥) cs d none last.there last.here)
  Leaves-one cs p before x y (inr (c, last, is)) (inl (none, too)) =
      absurd (All-contains (λ e. e.prefix ≡ p → ⊥) cs c none last.there last.here)
  Leaves-one cs p before x y (inr (c, last, is)) (inr (d, final, too)) =
      let up : d.part ≤ c.part =
      All-contains (λ e. e.prefix ≡ p → e.part ≤ c.part) cs d last.top final.there final.here in
      let down : c.part ≤ d.part =
      All-contains (λ e. e.prefix ≡ p → e.part ≤ d.part) cs c final.top last.there last.here in
      let same : c.part ≡ d.part = omega (arith, up, down) in
      is ∙ ap (part_at parts) same ∙ sym too

  -- a change before others, of which one is the last
  last_later : (c : Change) (cs : List Change) (p : Prefix) (d : Change) → IsLast cs p d
      → (c.prefix ≡ p → c.part ≤ d.part) → IsLast (c ∷ cs) p d
  last_later c cs p d last below = record {
    there = Contains-append_right (c ∷ []) cs d last.there;
    here = last.here;
    top = All-cons (λ e. e.prefix ≡ p → e.part ≤ d.part) c cs below last.top;
  }

  -- a change before others of other prefixes
  last_first : (c : Change) (cs : List Change) (p : Prefix) → c.prefix ≡ p → Untouched cs p → IsLast (c ∷ cs) p c
  last_first c cs p here none = record {
    there = (0, omega arith, refl);
    here = here;
    top = All-cons (λ e. e.prefix ≡ p → e.part ≤ c.part) c cs (λ same. omega arith)
        (All-weaker (λ e. e.prefix ≡ p → ⊥) (λ e. e.prefix ≡ p → e.part ≤ c.part)
        (λ e apart same. absurd (apart same)) cs none);
  }

-- whether two prefixes are the same
same_prefix : {P : Type 0} (p q : Prefix) → (p ≡ q → P) → (is_eq (prefix_cmp p q) ≡ false → P) → P
same_prefix p q same other = by_ordering (prefix_cmp p q)
    (λ l. other (ap is_eq l))
    (λ e. same (prefix_exact p q e))
    (λ g. other (ap is_eq g))

apart_from : (p q : Prefix) → is_eq (prefix_cmp p q) ≡ false → q ≡ p → ⊥
apart_from p q other same =
    let itself : is_eq (prefix_cmp p p) ≡ false = subst (λ (x : Prefix). is_eq (prefix_cmp p x) ≡ false) same other in
    let no : true ≡ false = rw (tied_itself prefix_total p) at itself in
    absurd (cc no)

-- the values of a table after one change
IsRising-change : (b : Option (List ℕ)) (t : Sections) (p : Prefix) → IsRising prefix_cmp t
    → IsRising prefix_cmp (change b t p)
IsRising-change None t p rising = IsRising-without prefix_cmp prefix_total t p rising
IsRising-change (Some s) t p rising = IsRising-with_value prefix_cmp prefix_total t p s rising

value_at-change : (b : Option (List ℕ)) (t : Sections) (p : Prefix) → IsRising prefix_cmp t
    → value_at prefix_cmp (change b t p) p ≡ b
value_at-change None t p rising = value_at-without prefix_cmp prefix_total t p rising
value_at-change (Some s) t p rising = value_at-with_value prefix_cmp prefix_total t p s

value_at-change-other : (b : Option (List ℕ)) (t : Sections) (p q : Prefix) → is_eq (prefix_cmp q p) ≡ false
    → value_at prefix_cmp (change b t p) q ≡ value_at prefix_cmp t q
value_at-change-other None t p q other = value_at-without-other prefix_cmp prefix_total t p q other
value_at-change-other (Some s) t p q other = value_at-with_value-other prefix_cmp prefix_total t p q s other

module _ (parts : List (Option (List ℕ))) where
  IsRising-played : (cs : List Change) (t : Sections) → IsRising prefix_cmp t → IsRising prefix_cmp (played parts cs t)
  IsRising-played [] t rising = rising
  IsRising-played (c ∷ cs) t rising = IsRising-played cs (change (part_at parts c.part) t c.prefix)
      (IsRising-change (part_at parts c.part) t c.prefix rising)

  -- changes in turn: the last of a prefix has the highest part
  played-leaves : (cs : List Change) (t : Sections) (p : Prefix) → IsRising prefix_cmp t
      → IsNonDecreasingBy (λ c. c.part) cs
      → Leaves parts cs p (value_at prefix_cmp t p) (value_at prefix_cmp (played parts cs t) p)
  played-leaves [] t p rising turn = inl (All-nil (λ d. d.prefix ≡ p → ⊥), refl)
  played-leaves (c ∷ cs) t p rising turn =
      let b : Option (List ℕ) = part_at parts c.part in
      let later : All (λ d. c.part ≤ d.part) cs = λ k d below. turn 0 (suc k) d (omega arith) (omega (arith, below)) in
      let tail : IsNonDecreasingBy (λ c. c.part) cs =
      λ i j d le below. turn (suc i) (suc j) d (omega (arith, le)) (omega (arith, below)) in
      elim (played-leaves cs (change b t c.prefix) p (IsRising-change b t c.prefix rising) tail) [
        | inl found ↦ same_prefix p c.prefix
            (λ same. inr (
              c,
              last_first parts c cs p (sym same) found.0,
              found.1
                  ∙ subst (λ (q : Prefix). value_at prefix_cmp (change b t c.prefix) q ≡ b) (sym same)
                  (value_at-change b t c.prefix rising),
            ))
            (λ other. inl (
              All-cons (λ d. d.prefix ≡ p → ⊥) c cs (apart_from p c.prefix other) found.0,
              found.1 ∙ value_at-change-other b t c.prefix p other,
            ))
        | inr found ↦ inr (
          found.0,
          last_later parts c cs p found.0 found.1 (λ here.
              All-contains (λ d. c.part ≤ d.part) cs found.0 later found.1.there),
          found.2,
        )
      ]

change_total : IsTotalOrder change_cmp
change_total =
    then_total (on_total (λ (c : Change). c.prefix) prefix_total) (on_total (λ (c : Change). c.part) nat_cmp_total)

-- the second change is not before the first: it is of a greater prefix, or of the same one and of no earlier part
abbrev NotBefore : Change → Change → Type 0
NotBefore c d = is_lt (change_cmp d c) ≡ false

by_order : {P : Type 0} (c d : Change) → NotBefore c d → (prefix_cmp c.prefix d.prefix ≡ Less → P)
    → (c.prefix ≡ d.prefix → c.part ≤ d.part → P) → P
by_order c d not less same = by_ordering (prefix_cmp d.prefix c.prefix)
    (λ l. let no : true ≡ false = rw l at not in absurd (cc no))
    (λ e.
    let parts : is_lt (nat_cmp d.part c.part) ≡ false = rw e at not in
    same (sym (prefix_exact d.prefix c.prefix e)) (not_less d.part c.part parts))
    (λ g. less (less_from_greater prefix_cmp prefix_total c.prefix d.prefix g))
  where
    not_less : (a b : ℕ) → is_lt (nat_cmp a b) ≡ false → b ≤ a
    not_less a b is = elim (cases_Bool (nat_lt a b)) [
      | inl l ↦ let no : true ≡ false = rw l at is in absurd (cc no)
      | inr fails ↦ ltb-false a b fails
    ]

sorted_later : (c : Change) (cs : List Change) → IsSorted change_cmp (c ∷ cs) → All (NotBefore c) cs
sorted_later c cs sorted =
    λ k d below. sorted_far (λ x y. is_lt (change_cmp x y)) (ranks_by change_total (λ (x : Change). x)) (c ∷ cs) sorted
    0 (suc k) d (omega arith) (omega (arith, below))

sorted_tail : (c : Change) (cs : List Change) → IsSorted change_cmp (c ∷ cs) → IsSorted change_cmp cs
sorted_tail c cs sorted =
    λ k d low high. let next : suc k + 1 ≡ suc (k + 1) = omega arith in
    subst (λ n. is_lt (change_cmp (slice_index_or (c ∷ cs) n d) (slice_index_or cs k d)) ≡ false) next
    (sorted (suc k) d (omega arith) (omega (arith, high)))

begins_same : (p : Prefix) (d : Change) (ds : List Change) → begins_with p (d ∷ ds) ≡ true → d.prefix ≡ p
begins_same p d ds is =
    let both = and_parts (d.prefix.addr == p.addr) (d.prefix.len == p.len) is in
    let addr : d.prefix.addr ≡ p.addr = eqb-true d.prefix.addr p.addr both.0 in
    let len : d.prefix.len ≡ p.len = eqb-true d.prefix.len p.len both.1 in
    λ i. record { addr = addr i; len = len i }

begins_other : {P : Type 0} (p : Prefix) (d : Change) (ds : List Change) → begins_with p (d ∷ ds) ≡ false
    → d.prefix ≡ p → P
begins_other p d ds is same =
    let addr : (d.prefix.addr == p.addr) ≡ true = eq-eqb d.prefix.addr p.addr (ap (λ (q : Prefix). q.addr) same) in
    let len : (d.prefix.len == p.len) ≡ true = eq-eqb d.prefix.len p.len (ap (λ (q : Prefix). q.len) same) in
    let no : true ≡ false = rw (addr, len) at is in
    absurd (cc no)

-- if no change of the first prefix follows, all that follow are above it
all_above : (c : Change) (cs : List Change) → IsSorted change_cmp (c ∷ cs) → begins_with c.prefix cs ≡ false
    → All (λ d. prefix_cmp c.prefix d.prefix ≡ Less) cs
all_above c [] sorted other = All-nil (λ d. prefix_cmp c.prefix d.prefix ≡ Less)
all_above c (d ∷ ds) sorted other =
    let first : prefix_cmp c.prefix d.prefix ≡ Less =
    by_order c d (All-head (NotBefore c) d ds (sorted_later c (d ∷ ds) sorted)) (λ l. l)
    (λ same le. begins_other c.prefix d ds other (sym same)) in
    All-cons (λ e. prefix_cmp c.prefix e.prefix ≡ Less) d ds first (
    All-weaker (NotBefore d) (λ e. prefix_cmp c.prefix e.prefix ≡ Less)
    (λ e not. by_order d e not (λ l. prefix_total.trans c.prefix d.prefix e.prefix first l)
    (λ same le. subst (λ (q : Prefix). prefix_cmp c.prefix q ≡ Less) same first))
    ds (sorted_later d ds (sorted_tail c (d ∷ ds) sorted))
    )

-- entries with one before them
Each-with_first : (q p : Prefix) (b : Option (List ℕ)) (es : Sections) → prefix_cmp q p ≡ Less
    → Each prefix_cmp prefix_total Less q es → Each prefix_cmp prefix_total Less q (with_first p b es)
Each-with_first q p None es first each = each
Each-with_first q p (Some s) es first each = (first, each)

IsRising-with_first : (p : Prefix) (b : Option (List ℕ)) (es : Sections) → Each prefix_cmp prefix_total Less p es
    → IsRising prefix_cmp es → IsRising prefix_cmp (with_first p b es)
IsRising-with_first p None es each rising = rising
IsRising-with_first p (Some s) es each rising = IsRising-cons prefix_cmp prefix_total (p, s) es each rising

value_at-with_first : (p : Prefix) (b : Option (List ℕ)) (es : Sections) → Each prefix_cmp prefix_total Less p es
    → value_at prefix_cmp (with_first p b es) p ≡ b
value_at-with_first p None es each = value_at-above prefix_cmp prefix_total p es each
value_at-with_first p (Some s) es each = rw (tied_itself prefix_total p) refl

value_at-with_first-other : (p q : Prefix) (b : Option (List ℕ)) (es : Sections) → is_eq (prefix_cmp q p) ≡ false
    → value_at prefix_cmp (with_first p b es) q ≡ value_at prefix_cmp es q
value_at-with_first-other p q None es other = refl
value_at-with_first-other p q (Some s) es other = rw other refl

begins_not : {P : Type 0} (q p : Prefix) (cs : List Change) → begins_with q cs ≡ true → Untouched cs p → q ≡ p → P
begins_not q p [] is none same = absurd (cc is)
begins_not q p (d ∷ ds) is none same =
    absurd (All-head (λ e. e.prefix ≡ p → ⊥) d ds none (begins_same q d ds is ∙ same))

module _ (parts : List (Option (List ℕ))) where
  Each-settled : (q : Prefix) (cs : List Change) → All (λ d. prefix_cmp q d.prefix ≡ Less) cs
      → Each prefix_cmp prefix_total Less q (settled parts cs)
  Each-settled q [] all = tt
  Each-settled q (c ∷ cs) all =
      let rest = Each-settled q cs (All-tail (λ d. prefix_cmp q d.prefix ≡ Less) c cs all) in
      elim (cases_Bool (begins_with c.prefix cs)) [
        | inl more ↦ rw more rest
        | inr ends ↦ rw ends (Each-with_first q c.prefix (part_at parts c.part) (settled parts cs)
            (All-head (λ d. prefix_cmp q d.prefix ≡ Less) c cs all) rest)
      ]

  -- the entries that sorted changes leave are above the prefix of the change before them, if it is none of theirs
  above_settled : (c : Change) (cs : List Change) → IsSorted change_cmp (c ∷ cs) → begins_with c.prefix cs ≡ false
      → Each prefix_cmp prefix_total Less c.prefix (settled parts cs)
  above_settled c cs sorted ends = Each-settled c.prefix cs (all_above c cs sorted ends)

  -- sorted changes leave rising prefixes
  pub IsRising-settled : (cs : List Change) → IsSorted change_cmp cs → IsRising prefix_cmp (settled parts cs)
  unfolding IsStrictlySortedBy
  IsRising-settled [] sorted = tt
  IsRising-settled (c ∷ cs) sorted =
      let rest = IsRising-settled cs (sorted_tail c cs sorted) in
      elim (cases_Bool (begins_with c.prefix cs)) [
        | inl more ↦ rw more rest
        | inr ends ↦ rw ends (IsRising-with_first c.prefix (part_at parts c.part) (settled parts cs)
            (above_settled c cs sorted ends) rest)
      ]

  -- sorted changes: the last of a prefix has the highest part
  settled-leaves : (cs : List Change) (p : Prefix) → IsSorted change_cmp cs
      → Leaves parts cs p None (value_at prefix_cmp (settled parts cs) p)
  settled-leaves [] p sorted = inl (All-nil (λ d. d.prefix ≡ p → ⊥), refl)
  settled-leaves (c ∷ cs) p sorted =
      let rest = settled-leaves cs p (sorted_tail c cs sorted) in
      let later = sorted_later c cs sorted in
      elim (cases_Bool (begins_with c.prefix cs)) [
        | inl more ↦ rw more (elim rest [
          | inl found ↦ inl (
            All-cons (λ d. d.prefix ≡ p → ⊥) c cs (begins_not c.prefix p cs more found.0) found.0,
            found.1,
          )
          | inr found ↦ inr (
            found.0,
            last_later parts c cs p found.0 found.1 (λ here.
                no_earlier c found.0 (here ∙ sym found.1.here)
                (All-contains (NotBefore c) cs found.0 later found.1.there)),
            found.2,
          )
        ])
        | inr ends ↦ rw ends (
            let b : Option (List ℕ) = part_at parts c.part in
            same_prefix p c.prefix
            (λ same. inr (
              c,
              last_first parts c cs p (sym same) (subst (Untouched cs) (sym same) (none_same c cs sorted ends)),
              subst (λ (q : Prefix). value_at prefix_cmp (with_first c.prefix b (settled parts cs)) q ≡ b) (sym same)
                  (value_at-with_first c.prefix b (settled parts cs) (above_settled c cs sorted ends)),
            ))
            (λ other.
            let skipped = value_at-with_first-other c.prefix p b (settled parts cs) other in
            elim rest [
              | inl found ↦ inl (
                All-cons (λ d. d.prefix ≡ p → ⊥) c cs (apart_from p c.prefix other) found.0,
                skipped ∙ found.1,
              )
              | inr found ↦ inr (
                found.0,
                last_later parts c cs p found.0 found.1 (λ here.
                    absurd (apart_from p c.prefix other here)),
                skipped ∙ found.2,
              )
            ])
            )
      ]
    where
      no_earlier : (c d : Change) → c.prefix ≡ d.prefix → NotBefore c d → c.part ≤ d.part
      no_earlier c d same not = by_order c d not
          (λ l. absurd (apart_from c.prefix d.prefix (ap is_eq l) (sym same)))
          (λ too le. le)

      none_same : (c : Change) (cs : List Change) → IsSorted change_cmp (c ∷ cs) → begins_with c.prefix cs ≡ false
          → Untouched cs c.prefix
      none_same c cs sorted ends = All-weaker (λ d. prefix_cmp c.prefix d.prefix ≡ Less) (λ d. d.prefix ≡ c.prefix → ⊥)
          (λ d l. apart_from c.prefix d.prefix (ap is_eq l)) cs (all_above c cs sorted ends)

nothing_rises : IsRising {X = List ℕ} prefix_cmp []
unfolding IsStrictlySortedBy
nothing_rises = tt

-- changes that are sorted leave the table that they leave in turn
pub settled-sorted : (parts : List (Option (List ℕ))) (n : ℕ) (xs ys : List Change) → IsInTurn n xs
    → IsPermutation xs ys → IsSorted change_cmp ys → settled parts ys ≡ played parts xs []
settled-sorted parts n xs ys turn moved sorted =
    same_values prefix_cmp prefix_total prefix_exact (settled parts ys) (played parts xs [])
    (IsRising-settled parts ys sorted) (IsRising-played parts xs [] nothing_rises)
    (λ p. Leaves-one parts ys p None (value_at prefix_cmp (settled parts ys) p)
    (value_at prefix_cmp (played parts xs []) p) (settled-leaves parts ys p sorted)
    (Leaves-permutation parts xs ys p None (value_at prefix_cmp (played parts xs []) p) moved
    (played-leaves parts xs [] p nothing_rises turn.in_turn)))

-- sorted changes begin with those of prefixes up to one
pub IsPartitionedBy-prefix : (p : Prefix) (cs : List Change) → IsSorted change_cmp cs
    → IsPartitionedBy (λ d. is_le (prefix_cmp d.prefix p)) cs
IsPartitionedBy-prefix p cs sorted =
    λ i j d le below is. up_to (slice_index_or cs i d) (slice_index_or cs j d)
    (sorted_far (λ x y. is_lt (change_cmp x y)) (ranks_by change_total (λ (x : Change). x)) cs sorted i j d le below) is
  where
    up_to : (a b : Change) → NotBefore a b → is_le (prefix_cmp b.prefix p) ≡ true
        → is_le (prefix_cmp a.prefix p) ≡ true
    up_to a b not is = by_order a b not
        (λ less. by_ordering (prefix_cmp b.prefix p)
        (λ l. ap is_le (prefix_total.trans a.prefix b.prefix p less l))
        (λ e. ap is_le (sym (alike_right prefix_total b.prefix p a.prefix e) ∙ less))
        (λ g. let no : false ≡ true = rw g at is in absurd (cc no)))
        (λ same le. subst (λ (q : Prefix). is_le (prefix_cmp q p) ≡ true) (sym same) is)

after_each : (p : Prefix) (es : Sections) → Each prefix_cmp prefix_total Less p es
    → entries_after prefix_cmp es (Some p) ≡ es
after_each p [] each = refl
after_each p (e ∷ es) each = rw each.0 (ap (λ (l : Sections). e ∷ l) (after_each p es each.1))

not_above : (p q : Prefix) → is_le (prefix_cmp q p) ≡ true → is_lt (prefix_cmp p q) ≡ false
not_above p q is = by_ordering (prefix_cmp p q)
    (λ l.
    let more : prefix_cmp q p ≡ Greater = prefix_total.antisymm q p ∙ ap ordering_reverse l in
    let no : false ≡ true = rw more at is in
    absurd (cc no))
    (λ e. ap is_lt e)
    (λ g. ap is_lt g)

above_from_not : (p q : Prefix) → is_le (prefix_cmp q p) ≡ false → prefix_cmp p q ≡ Less
above_from_not p q is = by_ordering (prefix_cmp q p)
    (λ l. let no : true ≡ false = rw l at is in absurd (cc no))
    (λ e. let no : true ≡ false = rw e at is in absurd (cc no))
    (λ g. less_from_greater prefix_cmp prefix_total p q g)

module _ (parts : List (Option (List ℕ))) (p : Prefix) where
  abbrev upto : Bool → Change → Type 0
  upto b d = is_le (prefix_cmp d.prefix p) ≡ b

  after-with_first : (q : Prefix) (b : Option (List ℕ)) (es : Sections) → is_le (prefix_cmp q p) ≡ true
      → entries_after prefix_cmp (with_first q b es) (Some p) ≡ entries_after prefix_cmp es (Some p)
  after-with_first q None es below = refl
  after-with_first q (Some s) es below = rw (not_above p q below) refl

  -- the changes after those of prefixes up to one leave the entries after it
  pub entries_after-settled : (cs : List Change) (i : ℕ) → IsPartitionPoint (upto true) (upto false) cs i
      → settled parts (drop i cs) ≡ entries_after prefix_cmp (settled parts cs) (Some p)
  entries_after-settled [] i point = ap (settled parts) (drop-nil i)
  entries_after-settled (c ∷ cs) zero point =
      let above : All (λ d. prefix_cmp p d.prefix ≡ Less) (c ∷ cs) =
      λ k d below. above_from_not p (slice_index_or (c ∷ cs) k d).prefix (point.1 k d (omega arith) below) in
      sym (after_each p (settled parts (c ∷ cs)) (Each-settled parts p (c ∷ cs) above))
  entries_after-settled (c ∷ cs) (suc i) point =
      let first : upto true c = point.0 0 c (omega arith) (omega arith) in
      let rest = entries_after-settled cs i (
        (λ k d low high. point.0 (suc k) d (omega arith) (omega (arith, high))),
        (λ k d low high. point.1 (suc k) d (omega (arith, low)) (omega (arith, high))),
      ) in
      elim (cases_Bool (begins_with c.prefix cs)) [
        | inl more ↦ rw more rest
        | inr ends ↦ rw ends (rest ∙ sym (after-with_first c.prefix (part_at parts c.part) (settled parts cs) first))
      ]

-- what gives the first entry, or None if there is none, gives the first of the entries
pub first_of-next : {A B : Type 0} (f : A → B) (entries rest : List B) (next : Option A)
    → IfSome next (λ e. entries ≡ f e ∷ rest) → IfNone next ((entries ≡ []) × (rest ≡ []))
    → option_map f next ≡ first_of entries
first_of-next f entries rest (Some e) here ends = sym (ap first_of here)
first_of-next f entries rest None here ends = sym (ap first_of ends.0)

-- A message tells a prefix that was pending and makes none pending, so fewer are pending after it.
use Rattle.std.proofs.Common.{◌≡◌, ℕ, ◌-◌, ◌<◌, ◌≤◌, Bool, true, false, inl, inr, List, [], ◌∷◌, ◌++◌, Option, Some}
use Rattle.std.proofs.Common.{None, refl, sym, ◌∙◌, ap, subst, length, filter, fold, take_while, cond, not, is_some}
use Rattle.std.proofs.Common.{is_none, ◌||◌, ◌&&◌, nat_lt, arith}
use Rattle.std.specs.BTreeMap.{is_at}
use Rattle.std.specs.List.{AllByRecursion, list_any}
use Rattle.std.specs.List.Sorted.{IsStrictlySortedBy}
use Rattle.std.specs.Map.{keys_of}
use Rattle.std.specs.Ordering.{is_eq}
use Rattle.std.specs.declared.cmp.Ordering.{Ordering}
use Rattle.std.specs.declared.cmp.Ordering.TheVariants.{Less, Equal, Greater}
use Rattle.std.proofs.lemmas.Bool.{cases_Bool, le-ltb}
use Rattle.std.proofs.lemmas.Cmp.{eq_by_cmp_equiv, tied_itself}
use Rattle.std.proofs.lemmas.List.{length-take}
use Rattle.std.proofs.lemmas.List.Elements.{All-filter, filter_passes, recursion_from_All}
use Rattle.std.proofs.lemmas.List.Folds.{list_any-append}
use Rattle.std.proofs.lemmas.List.Kept.{IsStrictlySortedBy-filter}
use Rattle.std.proofs.lemmas.List.Sums.{take_while-cons}
use Rattle.std.proofs.lemmas.Map.{lookup-remove_entry}
use Rattle.std.proofs.lemmas.Map.Keys.{IsDistinct-from_sorted}
use Rattle.std.proofs.lemmas.Map.Made.{is_some-lookup}
use Rattle.std.proofs.lemmas.Map.Views.{any-filter_same}
use Rattle.std.proofs.lemmas.Slice.Eq.{bytes_eq-Decides}
use Rattle.xb_words.specs.Octets.{four_octets}
use Rattle.xb_words.specs.Table.{value_at, with_value, without, has_key, set_of, IsRising}
use Rattle.xb_words.proofs.TableLemmas.{IsRising-with_value, IsRising-without, value_at-some}
use Rattle.xb_values.specs.Prefixes.{Prefix, Sections, prefix_cmp, prefix_octets, octets_for}
use Rattle.xb_values.proofs.PrefixLemmas.{prefix_total, prefix_exact}
use Rattle.xb_domain.specs.declared.output.Packing.{Packing}
use Rattle.xb_domain.specs.declared.output.Packing.TheVariants.{Grouped, Sorted}
use Rattle.xb_wire.specs.declared.numbers.TheConstants.{EMPTY_UPDATE, MAX_MESSAGE, MAX_SECTION}
use Rattle.bgp_write.specs.Pending.{Formed, form, pending, same_section, section_of, has_section, fitting, together}
use Rattle.bgp_write.specs.Pending.{withdrawn_first, announcement, withdrawal}
use Rattle.bgp_write.proofs.SetLemmas.{by_ordering, has_key-with_keys, IsStrictlySortedBy-with_keys, length-more}

equal_from : (r : Ordering) → is_eq r ≡ true → r ≡ Equal
equal_from Less same = absurd (cc same)
equal_from Equal same = refl
equal_from Greater same = absurd (cc same)

-- whether what is advertised and what was told differ at a prefix
abbrev pub differs : Sections → Sections → Prefix → Bool
differs adv told p = not (same_section (value_at prefix_cmp adv p) (value_at prefix_cmp told p))

some_differs : (a b : Option (List ℕ)) → not (same_section a b) ≡ ((not (same_section a b)) && (is_some a || is_some b))
some_differs None None = refl
some_differs None (Some t) = refl
some_differs (Some s) None = refl
some_differs (Some s) (Some t) = and_true (not (same_section (Some s) (Some t)))
  where
    and_true : (b : Bool) → b ≡ (b && true)
    and_true true = refl
    and_true false = refl

or_none : (a : Bool) → (a || false) ≡ a
or_none true = refl
or_none false = refl

-- the pending prefixes are those where they differ
pub has_key-pending : (adv told : Sections) (p : Prefix) → has_key prefix_cmp (pending adv told) p ≡ differs adv told p
unfolding pending
has_key-pending adv told p =
    let at = is_at (prefix_cmp p) in
    let keys = keys_of adv ++ keys_of told in
    let a = value_at prefix_cmp adv p in
    let t = value_at prefix_cmp told p in
    any-filter_same at (differs adv told) (differs adv told p)
    (λ k same. ap (differs adv told) (sym (prefix_exact p k (equal_from _ same)))) (set_of prefix_cmp keys)
    ∙ ap (λ b. differs adv told p && b) (has_key-with_keys prefix_cmp prefix_total keys [] p
    ∙ or_none (list_any at keys) ∙ list_any-append at (keys_of adv) (keys_of told)
    ∙ ap (λ b. b || list_any at (keys_of told)) (sym (is_some-lookup at adv))
    ∙ ap (λ b. is_some a || b) (sym (is_some-lookup at told)))
    ∙ sym (some_differs a t)

-- and they rise
pub IsStrictlySortedBy-pending : (adv told : Sections) → IsStrictlySortedBy prefix_cmp (pending adv told)
unfolding pending IsStrictlySortedBy
IsStrictlySortedBy-pending adv told =
    IsStrictlySortedBy-filter prefix_cmp (differs adv told) (set_of prefix_cmp (keys_of adv ++ keys_of told))
    (IsStrictlySortedBy-with_keys prefix_cmp prefix_total (keys_of adv ++ keys_of told) [] tt)

-- fewer are pending if a prefix is told and no other is made to wait
pub length-pending : (adv told new : Sections) (x : Prefix)
    → ((p : Prefix) → differs adv new p ≡ true → differs adv told p ≡ true) → differs adv told x ≡ true
    → differs adv new x ≡ false → length (pending adv new) < length (pending adv told)
length-pending adv told new x others before after =
    length-more prefix_cmp prefix_total (pending adv new) (pending adv told) x (IsStrictlySortedBy-pending adv new)
    (has_key-pending adv new x ∙ after) (has_key-pending adv told x ∙ before)
    (λ p there. has_key-pending adv told p ∙ others p (sym (has_key-pending adv new p) ∙ there))

-- what is at a prefix after a write
both_written : {A : Type 0} (b : Bool) (v w r : A) → cond b v r ≡ cond b v (cond b w r)
both_written true v w r = refl
both_written false v w r = refl

value_at-written : (t : Sections) (p q : Prefix) (s : List ℕ)
    → value_at prefix_cmp (with_value prefix_cmp t p s) q
    ≡ cond (is_eq (prefix_cmp q p)) (Some s) (value_at prefix_cmp t q)
value_at-written [] p q s = refl
value_at-written (e ∷ t) p q s = by_ordering (prefix_cmp p e.0)
    (λ l. rw l refl)
    (λ h. let key : p ≡ e.0 = prefix_exact p e.0 h in
    rw h (subst (λ (k : Prefix). cond (is_eq (prefix_cmp q e.0)) (Some s) (value_at prefix_cmp t q)
    ≡ cond (is_eq (prefix_cmp q k)) (Some s) (value_at prefix_cmp (e ∷ t) q)) (sym key)
    (both_written (is_eq (prefix_cmp q e.0)) (Some s) (Some e.1) (value_at prefix_cmp t q))))
    (λ g. rw g (ap (λ o. cond (is_eq (prefix_cmp q e.0)) (Some e.1) o) (value_at-written t p q s) ∙ swapped g))
  where
    swapped : prefix_cmp p e.0 ≡ Greater
        → cond (is_eq (prefix_cmp q e.0)) (Some e.1) (cond (is_eq (prefix_cmp q p)) (Some s) (value_at prefix_cmp t q))
        ≡ cond (is_eq (prefix_cmp q p)) (Some s) (cond (is_eq (prefix_cmp q e.0)) (Some e.1) (value_at prefix_cmp t q))
    swapped g = elim (cases_Bool (is_eq (prefix_cmp q e.0))) [
      | inl here ↦
          let eq = eq_by_cmp_equiv prefix_total in
          let other : is_eq (prefix_cmp q p) ≡ false = eq.congr q e.0 p here ∙ eq.symm e.0 p ∙ ap is_eq g in
          rw (here, other) refl
      | inr other ↦ rw other refl
    ]

-- and after a removal
value_at-removed : (t : Sections) (p q : Prefix) → IsRising prefix_cmp t
    → value_at prefix_cmp (without prefix_cmp t p) q
    ≡ cond (is_eq (prefix_cmp p q)) None (value_at prefix_cmp t q)
value_at-removed t p q rising =
    let eq = eq_by_cmp_equiv prefix_total in
    lookup-remove_entry eq (is_at (prefix_cmp p)) (λ x y here. eq.congr p x y here) q t
    (IsDistinct-from_sorted prefix_cmp (keys_of t) rising)

-- a message tells prefixes one by one: each that it tells no longer differs, and the others stay as they were
module _ (adv : Sections) (tell : Sections → Prefix → Sections) (Fits : Prefix → Type 0)
    (rises : (t : Sections) (p : Prefix) → IsRising prefix_cmp t → IsRising prefix_cmp (tell t p))
    (told_now : (t : Sections) (p : Prefix) → IsRising prefix_cmp t → Fits p → differs adv (tell t p) p ≡ false)
    (others : (t : Sections) (p q : Prefix) → IsRising prefix_cmp t → Fits p → differs adv (tell t p) q ≡ true
    → differs adv t q ≡ true) where
  differs-fold : (ps : List Prefix) (t : Sections) (q : Prefix) → IsRising prefix_cmp t → AllByRecursion Fits ps
      → differs adv (fold tell t ps) q ≡ true → differs adv t q ≡ true
  differs-fold [] t q rising fit apart = apart
  differs-fold (p ∷ ps) t q rising fit apart =
      others t p q rising fit.0 (differs-fold ps (tell t p) q (rises t p rising) fit.1 apart)

  length-fold : (p : Prefix) (ps : List Prefix) (t : Sections) → IsRising prefix_cmp t → AllByRecursion Fits (p ∷ ps)
      → differs adv t p ≡ true → length (pending adv (fold tell t (p ∷ ps))) < length (pending adv t)
  length-fold p ps t rising fit before =
      length-pending adv t (fold tell (tell t p) ps) p (λ q apart. differs-fold (p ∷ ps) t q rising fit apart) before
      (elim (cases_Bool (differs adv (fold tell (tell t p) ps) p)) [
        | inl apart ↦ absurd (cc (
          differs-fold ps (tell t p) p (rises t p rising) fit.1 apart,
          told_now t p rising fit.0,
        ))
        | inr same ↦ same
      ])

no_section : (o : Option (List ℕ)) → is_none o ≡ true → o ≡ None
no_section None none = refl
no_section (Some s) none = absurd (cc none)

itself : (p : Prefix) → is_eq (prefix_cmp p p) ≡ true
itself p = ap is_eq (tied_itself prefix_total p)

-- a prefix that is not advertised is withdrawn
withdrawn-told : (adv t : Sections) (p : Prefix) → IsRising prefix_cmp t
    → is_none (value_at prefix_cmp adv p) ≡ true → differs adv (without prefix_cmp t p) p ≡ false
withdrawn-told adv t p rising none =
    ap (λ o. not (same_section o (value_at prefix_cmp (without prefix_cmp t p) p))) (no_section _ none)
    ∙ ap (λ o. not (same_section None o)) (value_at-removed t p p rising
    ∙ ap (λ b. cond b None (value_at prefix_cmp t p)) (itself p))

withdrawn-others : (adv t : Sections) (p q : Prefix) → IsRising prefix_cmp t
    → is_none (value_at prefix_cmp adv p) ≡ true → differs adv (without prefix_cmp t p) q ≡ true
    → differs adv t q ≡ true
withdrawn-others adv t p q rising none apart = elim (cases_Bool (is_eq (prefix_cmp p q))) [
  | inl same ↦
      let key : p ≡ q = prefix_exact p q (equal_from _ same) in
      let now = subst (λ (k : Prefix). differs adv (without prefix_cmp t p) k ≡ false) key
      (withdrawn-told adv t p rising none) in
      absurd (cc (now, apart))
  | inr other ↦
      let value = value_at-removed t p q rising ∙ ap (λ b. cond b None (value_at prefix_cmp t q)) other in
      ap (λ o. not (same_section (value_at prefix_cmp adv q) o)) (sym value) ∙ apart
]

-- a prefix that is advertised with a section is announced with it
announced-told : (adv t : Sections) (s : List ℕ) (p : Prefix) → has_section adv s p ≡ true
    → differs adv (with_value prefix_cmp t p s) p ≡ false
announced-told adv t s p has =
    ap (λ o. not (same_section (value_at prefix_cmp adv p) o)) (value_at-written t p p s
    ∙ ap (λ b. cond b (Some s) (value_at prefix_cmp t p)) (itself p)) ∙ ap not has

announced-others : (adv t : Sections) (s : List ℕ) (p q : Prefix) → has_section adv s p ≡ true
    → differs adv (with_value prefix_cmp t p s) q ≡ true → differs adv t q ≡ true
announced-others adv t s p q has apart = elim (cases_Bool (is_eq (prefix_cmp q p))) [
  | inl same ↦
      let key : q ≡ p = prefix_exact q p (equal_from _ same) in
      let now = subst (λ (k : Prefix). differs adv (with_value prefix_cmp t p s) k ≡ false) (sym key)
      (announced-told adv t s p has) in
      absurd (cc (now, apart))
  | inr other ↦
      let value = value_at-written t p q s ∙ ap (λ b. cond b (Some s) (value_at prefix_cmp t q)) other in
      ap (λ o. not (same_section (value_at prefix_cmp adv q) o)) (sym value) ∙ apart
]

-- the first prefix fits in a room of five octets
length-prefix_octets : (p : Prefix) → length (prefix_octets p) ≤ 5
length-prefix_octets p = omega (arith, length-take (octets_for p.len) (four_octets p.addr))

fitting-first : (room : ℕ) (p : Prefix) (ps : List Prefix) → 5 ≤ room
    → fitting room (p ∷ ps) ≡ p ∷ fitting (room - length (prefix_octets p)) ps
fitting-first room p ps wide =
    let fits : nat_lt room (length (prefix_octets p)) ≡ false =
    le-ltb _ _ (omega (arith, wide, length-prefix_octets p)) in
    rw fits refl

AllByRecursion-fitting : (P : Prefix → Type 0) (ps : List Prefix) (room : ℕ) → AllByRecursion P ps
    → AllByRecursion P (fitting room ps)
AllByRecursion-fitting P [] room all = tt
AllByRecursion-fitting P (p ∷ ps) room all = elim (cases_Bool (nat_lt room (length (prefix_octets p)))) [
  | inl small ↦ rw small tt
  | inr fits ↦ rw fits (all.0, AllByRecursion-fitting P ps (room - length (prefix_octets p)) all.1)
]

-- pending prefixes differ
AllByRecursion-pending : (adv told : Sections) (test : Prefix → Bool)
    → AllByRecursion (λ p. differs adv told p ≡ true) (filter test (pending adv told))
unfolding pending
AllByRecursion-pending adv told test =
    let set = set_of prefix_cmp (keys_of adv ++ keys_of told) in
    recursion_from_All _ _ (All-filter test (λ p. differs adv told p ≡ true) _ (filter_passes (differs adv told) set))

-- after a withdrawal
length-withdrawal : (adv told : Sections) (x : Prefix) (gone : List Prefix) → IsRising prefix_cmp told
    → filter (λ p. is_none (value_at prefix_cmp adv p)) (pending adv told) ≡ x ∷ gone
    → length (pending adv (withdrawal told (x ∷ gone)).told) < length (pending adv told)
length-withdrawal adv told x gone rising is =
    let absent : Prefix → Bool = λ p. is_none (value_at prefix_cmp adv p) in
    let room = MAX_MESSAGE - EMPTY_UPDATE in
    let wide : 5 ≤ room = omega arith in
    let rest = fitting (room - length (prefix_octets x)) gone in
    let fits = fitting-first room x gone wide in
    let apart = subst (λ (l : List Prefix). AllByRecursion (λ p. differs adv told p ≡ true) l) is
    (AllByRecursion-pending adv told absent) in
    let all = subst (λ (l : List Prefix). AllByRecursion (λ p. absent p ≡ true) l) is
    (recursion_from_All _ _ (filter_passes absent (pending adv told))) in
    let all_told : AllByRecursion (λ p. absent p ≡ true) (x ∷ rest) =
    subst (λ (l : List Prefix). AllByRecursion (λ p. absent p ≡ true) l) fits
    (AllByRecursion-fitting (λ p. absent p ≡ true) (x ∷ gone) room all) in
    subst (λ (l : List Prefix). length (pending adv (fold (without prefix_cmp) told l)) < length (pending adv told))
    (sym fits)
    (length-fold adv (without prefix_cmp) (λ p. absent p ≡ true) (IsRising-without prefix_cmp prefix_total)
    (withdrawn-told adv) (withdrawn-others adv) x rest told rising all_told apart.0)

-- the prefixes that go together have one section, and the first is among them
together-first : (rule : Packing) (adv : Sections) (s : List ℕ) (x : Prefix) (ps : List Prefix)
    → has_section adv s x ≡ true → together rule adv s (x ∷ ps) ≡ x ∷ together rule adv s ps
together-first Grouped adv s x ps has = rw has refl
together-first Sorted adv s x ps has = take_while-cons (has_section adv s) x ps ∙ rw has refl

AllByRecursion-together : (rule : Packing) (adv : Sections) (s : List ℕ) (ps : List Prefix)
    → AllByRecursion (λ p. has_section adv s p ≡ true) (together rule adv s ps)
AllByRecursion-together Grouped adv s ps = recursion_from_All _ _ (filter_passes (has_section adv s) ps)
AllByRecursion-together Sorted adv s ps = run ps
  where
    run : (qs : List Prefix) → AllByRecursion (λ p. has_section adv s p ≡ true) (take_while (has_section adv s) qs)
    run [] = tt
    run (q ∷ qs) = subst (λ (l : List Prefix). AllByRecursion (λ p. has_section adv s p ≡ true) l)
        (sym (take_while-cons (has_section adv s) q qs)) (elim (cases_Bool (has_section adv s q)) [
          | inl has ↦ rw has (has, run qs)
          | inr other ↦ rw other tt
        ])

some_section : (adv : Sections) (p : Prefix) → is_none (value_at prefix_cmp adv p) ≡ false
    → value_at prefix_cmp adv p ≡ Some (section_of adv p)
some_section adv p here = go (value_at prefix_cmp adv p) here
  where
    go : (o : Option (List ℕ)) → is_none o ≡ false → o ≡ Some (elim o [ None ↦ [] | Some s ↦ s ])
    go None here = absurd (cc here)
    go (Some s) here = refl

-- after an announcement
length-announcement : (rule : Packing) (adv told : Sections) (x : Prefix) (ps : List Prefix) → IsRising prefix_cmp told
    → AllByRecursion (λ e. length e.1 ≤ MAX_SECTION) adv → pending adv told ≡ x ∷ ps
    → is_none (value_at prefix_cmp adv x) ≡ false
    → length (pending adv (announcement told (section_of adv x) (together rule adv (section_of adv x) (x ∷ ps))).told)
    < length (pending adv told)
length-announcement rule adv told x ps rising short is here =
    let s = section_of adv x in
    let room = MAX_MESSAGE - EMPTY_UPDATE - length s in
    let value = some_section adv x here in
    let held = value_at-some prefix_cmp (λ e. length e.1 ≤ MAX_SECTION) adv x s short value in
    let wide : 5 ≤ room = omega (arith, held.2) in
    let has : has_section adv s x ≡ true =
    ap (λ o. same_section o (Some s)) value ∙ (bytes_eq-Decides s s).1 refl in
    let rest = fitting (room - length (prefix_octets x)) (together rule adv s ps) in
    let fits = ap (fitting room) (together-first rule adv s x ps has)
    ∙ fitting-first room x (together rule adv s ps) wide in
    let all : AllByRecursion (λ p. has_section adv s p ≡ true) (x ∷ rest) =
    subst (λ (l : List Prefix). AllByRecursion (λ p. has_section adv s p ≡ true) l) fits
    (AllByRecursion-fitting (λ p. has_section adv s p ≡ true) (together rule adv s (x ∷ ps)) room
    (AllByRecursion-together rule adv s (x ∷ ps))) in
    let before : differs adv told x ≡ true =
    sym (has_key-pending adv told x) ∙ ap (λ (l : List Prefix). has_key prefix_cmp l x) is
    ∙ ap (λ b. b || has_key prefix_cmp ps x) (itself x) in
    subst (λ (l : List Prefix). length (pending adv (fold (λ t p. with_value prefix_cmp t p s) told l))
    < length (pending adv told)) (sym fits)
    (length-fold adv (λ t p. with_value prefix_cmp t p s) (λ p. has_section adv s p ≡ true)
    (λ t p r. IsRising-with_value prefix_cmp prefix_total t p s r) (λ t p _ h. announced-told adv t s p h)
    (λ t p q _ h apart. announced-others adv t s p q h apart) x rest told rising all before)

-- fewer prefixes are pending after a message is formed, however prefixes are packed
pub length-pending-formed : (rule : Packing) (adv told : Sections) (f : Formed) → IsRising prefix_cmp told
    → AllByRecursion (λ e. length e.1 ≤ MAX_SECTION) adv → form rule adv told ≡ Some f
    → length (pending adv f.told) < length (pending adv told)
unfolding form
length-pending-formed rule adv told f rising short formed =
    by_parts (pending adv told) (filter (λ p. is_none (value_at prefix_cmp adv p)) (pending adv told)) refl refl formed
  where
    by_parts : (ps gone : List Prefix) → pending adv told ≡ ps
        → filter (λ p. is_none (value_at prefix_cmp adv p)) (pending adv told) ≡ gone
        → withdrawn_first rule adv told ps gone ≡ Some f → length (pending adv f.told) < length (pending adv told)
    by_parts ps (x ∷ gone) all some is =
        let same : withdrawal told (x ∷ gone) ≡ f = cc is in
        subst (λ (g : Formed). length (pending adv g.told) < length (pending adv told)) same
        (length-withdrawal adv told x gone rising some)
    by_parts [] [] all none is = absurd (cc is)
    by_parts (x ∷ ps) [] all none is =
        let s = section_of adv x in
        let same : announcement told s (together rule adv s (x ∷ ps)) ≡ f = cc is in
        let left = ap (filter (λ p. is_none (value_at prefix_cmp adv p))) (sym all) ∙ none in
        subst (λ (g : Formed). length (pending adv g.told) < length (pending adv told)) same
        (length-announcement rule adv told x ps rising short all
        (elim (cases_Bool (is_none (value_at prefix_cmp adv x))) [
          | inl gone ↦ absurd (cc (rw gone at left))
          | inr here ↦ here
        ]))

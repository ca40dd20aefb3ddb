-- If nothing is pending, what was told is what is advertised.
use Rattle.std.proofs.Common.{◌≡◌, refl, sym, ap, ◌∙◌, inl, inr, Bool, true, false, List, [], ◌∷◌, ◌++◌, Option, Some}
use Rattle.std.proofs.Common.{None, ℕ, not, subst}
use Rattle.std.proofs.lemmas.Bool.{cases_Bool}
use Rattle.std.proofs.lemmas.Cmp.{tied_itself}
use Rattle.std.proofs.lemmas.Slice.Eq.{bytes_eq-Decides}
use Rattle.std.specs.Prelude.{filter}
use Rattle.std.specs.List.{AllByRecursion}
use Rattle.std.specs.Map.{keys_of}
use Rattle.std.specs.Ordering.{ordering_reverse}
use Rattle.std.specs.Str.{bytes_eq}
use Rattle.std.specs.declared.cmp.Ordering.{Ordering}
use Rattle.std.specs.declared.cmp.Ordering.TheVariants.{Less, Equal, Greater}
use Rattle.xb_words.specs.Table.{value_at, with_key, with_keys, set_of, IsRising}
use Rattle.xb_words.proofs.TableSplitLemmas.{Each, Each-trans, IsRising-head, IsRising-tail, less_from_greater}
use Rattle.xb_words.proofs.TableSplitLemmas.{value_at-above}
use Rattle.xb_values.specs.Prefixes.{Prefix, Sections, prefix_cmp}
use Rattle.xb_values.proofs.PrefixLemmas.{prefix_exact, prefix_total}
use Rattle.bgp_write.specs.Pending.{pending, same_section}

-- ---- what holds of a set holds of the list that it was made of

-- an ordering is one of three
pub by_ordering : {P : Type 0} (r : Ordering) → (r ≡ Less → P) → (r ≡ Equal → P) → (r ≡ Greater → P) → P
by_ordering Less l e g = l refl
by_ordering Equal l e g = e refl
by_ordering Greater l e g = g refl

of_with_key : (P : Prefix → Type 0) (set : List Prefix) (p : Prefix) → AllByRecursion P (with_key prefix_cmp set p)
    → P p × AllByRecursion P set
of_with_key P [] p all = (all.0, tt)
of_with_key P (x ∷ set) p all = by_ordering (prefix_cmp p x)
    (λ l. let here : AllByRecursion P (p ∷ x ∷ set) = rw l at all in (here.0, here.1))
    (λ q.
    let here : AllByRecursion P (x ∷ set) = rw q at all in
    (subst P (sym (prefix_exact p x q)) here.0, here))
    (λ g.
    let here : AllByRecursion P (x ∷ with_key prefix_cmp set p) = rw g at all in
    let rest = of_with_key P set p here.1 in
    (rest.0, (here.0, rest.1)))

of_with_keys : (P : Prefix → Type 0) (set ps : List Prefix) → AllByRecursion P (with_keys prefix_cmp set ps)
    → AllByRecursion P set × AllByRecursion P ps
of_with_keys P set [] all = (all, tt)
of_with_keys P set (p ∷ ps) all =
    let rest = of_with_keys P (with_key prefix_cmp set p) ps all in
    let first = of_with_key P set p rest.0 in
    (first.1, (first.0, rest.1))

of_append : (P : Prefix → Type 0) (xs ys : List Prefix) → AllByRecursion P (xs ++ ys)
    → AllByRecursion P xs × AllByRecursion P ys
of_append P [] ys all = (tt, all)
of_append P (x ∷ xs) ys all = let rest = of_append P xs ys all.1 in ((all.0, rest.0), rest.1)

of_keys : (P : Prefix → Type 0) (es : Sections) → AllByRecursion P (keys_of es) → AllByRecursion (λ e. P e.0) es
of_keys P [] all = tt
of_keys P (e ∷ es) all = (all.0, of_keys P es all.1)

none_pass : {A : Type 0} (test : A → Bool) (xs : List A) → filter test xs ≡ []
    → AllByRecursion (λ x. test x ≡ false) xs
none_pass test [] none = tt
none_pass test (x ∷ xs) none =
    elim (cases_Bool (test x)) [
      | inl passes ↦ let wrong : x ∷ filter test xs ≡ [] = rw passes at none in absurd (cc wrong)
      | inr fails ↦ let rest : filter test xs ≡ [] = rw fails at none in (fails, none_pass test xs rest)
    ]

-- ---- two tables with the same section at each prefix of one of them

sections_equal : (a b : Option (List ℕ)) → not (same_section a b) ≡ false → a ≡ b
sections_equal None None e = refl
sections_equal None (Some t) e = absurd (cc e)
sections_equal (Some s) None e = absurd (cc e)
sections_equal (Some s) (Some t) e =
    elim (cases_Bool (bytes_eq s t)) [
      | inl same ↦ ap Some ((bytes_eq-Decides s t).0 same)
      | inr other ↦ let wrong : true ≡ false = rw other at e in absurd (cc wrong)
    ]

-- both have the same at a prefix
abbrev Agree : Sections → Sections → Prefix → Type 0
Agree adv told p = value_at prefix_cmp adv p ≡ value_at prefix_cmp told p

agree_pending : (adv told : Sections) → pending adv told ≡ []
    → AllByRecursion (λ e. Agree adv told e.0) adv × AllByRecursion (λ e. Agree adv told e.0) told
unfolding pending
agree_pending adv told none =
    let test : Prefix → Bool =
    λ p. not (same_section (value_at prefix_cmp adv p) (value_at prefix_cmp told p)) in
    let keys = keys_of adv ++ keys_of told in
    let equal : Prefix → Type 0 = λ p. test p ≡ false in
    let all = (of_with_keys equal [] keys (none_pass test (set_of prefix_cmp keys) none)).1 in
    let both = of_append equal (keys_of adv) (keys_of told) all in (
      agree_each adv told adv (of_keys equal adv both.0),
      agree_each adv told told (of_keys equal told both.1),
    )
  where
    agree_each : (a t es : Sections)
        → AllByRecursion (λ e. not (same_section (value_at prefix_cmp a e.0) (value_at prefix_cmp t e.0)) ≡ false) es
        → AllByRecursion (λ e. Agree a t e.0) es
    agree_each a t [] all = tt
    agree_each a t (e ∷ es) all =
        (sections_equal (value_at prefix_cmp a e.0) (value_at prefix_cmp t e.0) all.0, agree_each a t es all.1)

-- the first entry is found
first_found : (e : Prefix × List ℕ) (es : Sections) → value_at prefix_cmp (e ∷ es) e.0 ≡ Some e.1
first_found e es = rw (tied_itself prefix_total e.0) refl

-- a prefix below the first is not found
below_none : (p : Prefix) (e : Prefix × List ℕ) (es : Sections) → IsRising prefix_cmp (e ∷ es)
    → prefix_cmp p e.0 ≡ Less → value_at prefix_cmp (e ∷ es) p ≡ None
below_none p e es rising less =
    let first = IsRising-head prefix_cmp prefix_total e es rising in
    value_at-above prefix_cmp prefix_total p (e ∷ es) (less, Each-trans prefix_cmp prefix_total p e es less first)

some_none : {P : Type 0} (o : Option (List ℕ)) (s : List ℕ) → o ≡ Some s → o ≡ None → P
some_none o s some none = let wrong : None ≡ Some s = sym none ∙ some in absurd (cc wrong)

-- the others agree without the first
tails_agree : (p : Prefix) (s t : List ℕ) (adv told es : Sections) → Each prefix_cmp prefix_total Less p es
    → AllByRecursion (λ e. Agree ((p, s) ∷ adv) ((p, t) ∷ told) e.0) es
    → AllByRecursion (λ e. Agree adv told e.0) es
tails_agree p s t adv told [] above all = tt
tails_agree p s t adv told (e ∷ es) above all =
    let g = prefix_total.antisymm e.0 p ∙ ap ordering_reverse above.0 in
    let here : Agree adv told e.0 = rw g at all.0 in
    (here, tails_agree p s t adv told es above.1 all.1)

tables_equal : (adv told : Sections) → IsRising prefix_cmp adv → IsRising prefix_cmp told
    → AllByRecursion (λ e. Agree adv told e.0) adv → AllByRecursion (λ e. Agree adv told e.0) told → told ≡ adv
tables_equal [] [] a b x y = refl
tables_equal [] (e ∷ told) a b x y =
    some_none (value_at prefix_cmp (e ∷ told) e.0) e.1 (first_found e told) (sym y.0)
tables_equal (e ∷ adv) [] a b x y =
    some_none (value_at prefix_cmp (e ∷ adv) e.0) e.1 (first_found e adv) x.0
tables_equal (e ∷ adv) (f ∷ told) a b x y = by_ordering (prefix_cmp e.0 f.0)
    (λ l. some_none (value_at prefix_cmp (e ∷ adv) e.0) e.1 (first_found e adv) (x.0 ∙ below_none e.0 f told b l))
    (λ q.
    let p = e.0 in
    let same : f.0 ≡ p = sym (prefix_exact e.0 f.0 q) in
    let fs : Prefix → Sections = λ r. (r, f.1) ∷ told in
    let rising : IsRising prefix_cmp (fs p) = subst (λ r. IsRising prefix_cmp (fs r)) same b in
    let xs : AllByRecursion (λ g. Agree (e ∷ adv) (fs p) g.0) (e ∷ adv) =
    subst (λ r. AllByRecursion (λ g. Agree (e ∷ adv) (fs r) g.0) (e ∷ adv)) same x in
    let ys : AllByRecursion (λ g. Agree (e ∷ adv) (fs p) g.0) (fs p) =
    subst (λ r. AllByRecursion (λ g. Agree (e ∷ adv) (fs r) g.0) (fs r)) same y in
    let value : Some e.1 ≡ Some f.1 = sym (first_found e adv) ∙ xs.0 ∙ first_found (p, f.1) told in
    let section : f.1 ≡ e.1 = cc value in
    let rest = tables_equal adv told (IsRising-tail prefix_cmp prefix_total e adv a)
    (IsRising-tail prefix_cmp prefix_total (p, f.1) told rising)
    (tails_agree p e.1 f.1 adv told adv (IsRising-head prefix_cmp prefix_total e adv a) xs.1)
    (tails_agree p e.1 f.1 adv told told (IsRising-head prefix_cmp prefix_total (p, f.1) told rising) ys.1) in
    ap fs same ∙ ap (λ (s : List ℕ). (p, s) ∷ told) section ∙ ap (λ (es : Sections). e ∷ es) rest)
    (λ g.
    let less = less_from_greater prefix_cmp prefix_total f.0 e.0 g in
    some_none (value_at prefix_cmp (f ∷ told) f.0) f.1 (first_found f told)
    (sym y.0 ∙ below_none f.0 e adv a less))

-- if nothing is pending, both tables are one
pub told-adv : (adv told : Sections) → IsRising prefix_cmp adv → IsRising prefix_cmp told → pending adv told ≡ []
    → told ≡ adv
told-adv adv told a b none = let all = agree_pending adv told none in tables_equal adv told a b all.0 all.1

-- Routes of sections without faults, and what becomes of them: no attribute is malformed, and the mandatory ones are
-- there.
use Rattle.std.proofs.Common.{◌≡◌, inl, inr, refl, sym, ap, subst, ◌∙◌, ℕ, ◌<◌, Bool, true, false}
use Rattle.std.proofs.Common.{List, [], ◌∷◌, cond, drop, length, map, Option, Some, None, is_some, arith}
use Rattle.std.specs.Prelude.{IfSome, is_none, find, not, ◌==◌, ◌&&◌, if◌then◌else◌}
use Rattle.std.specs.Option.{option_map}
use Rattle.std.specs.BTreeMap.{is_at}
use Rattle.std.specs.List.{AllByRecursion}
use Rattle.std.specs.List.Sorted.{IsStrictlySortedBy}
use Rattle.std.specs.Map.{keys_of}
use Rattle.std.specs.Ordering.{nat_cmp, is_eq}
use Rattle.std.proofs.lemmas.Bool.{cases_Bool, and_parts, eqb-true}
use Rattle.std.proofs.lemmas.List.{length-append, length-drop}
use Rattle.xb_words.specs.Octets.{AreOctets, two_at, four_octets}
use Rattle.xb_words.specs.Optional.{or_else}
use Rattle.xb_words.specs.Table.{with_value}
use Rattle.xb_wire.specs.Messages.{Update, lengths_fit, update_of, update_parts}
use Rattle.xb_domain.specs.declared.side.Side.{Side}
use Rattle.bgp_attr.specs.declared.codes.TheConstants.{ORIGIN, AS_PATH, NEXT_HOP, LOCAL_PREF, AS4_PATH}
use Rattle.bgp_attr.specs.declared.codes.TheConstants.{AS4_AGGREGATOR}
use Rattle.bgp_attr.specs.Attributes.{attributes, attr_flags, attr_code, attr_value, codes_of}
use Rattle.bgp_attr.specs.Paths.{path_ok, width_of}
use Rattle.bgp_attr.specs.Routes.{Attribute, Route, attribute_at, with_attribute, without_attribute, kept_flags}
use Rattle.bgp_attr.specs.Routes.{route_of}
use Rattle.bgp_attr.specs.Rules.{attr_fault}
use Rattle.bgp_check.specs.Judgement.{attr_notice, attribute_check, first_check, has_code, is_clean}
use Rattle.bgp_check.specs.Judgement.{judge, judge_parts, judge_section, missing, missing_notice}
use Rattle.bgp_path.proofs.WidthsLemmas.{path_ok-wide_path, path_ok-merge}
use Rattle.xbgp_view.proofs.LowerLemmas.{nat_cmp-equal}
use Rattle.spk_native.specs.Filters.{as_received, is_external}
use Rattle.spk_native.specs.Laws.{wide_narrow_law}
use Rattle.spk_native.specs.Receipt.{aggregated_since, aggregator_with, good, good_aggregator, good_path, inflow}
use Rattle.spk_native.specs.Receipt.{is_good_aggregator, is_good_path, is_optional_transitive, path_with}
use Rattle.spk_native.specs.Receipt.{wide_aggregator}
use Rattle.spk_native.specs.Rebuilds.{four_of, or_other, set_if, used_aggregator, used_path, valued, wide_four}
use Rattle.spk_native.specs.Values.{HasNoFault, IsFaultless, has_sound, is_sound}
use Rattle.spk_native.proofs.FaultLemmas.{attr_fault-kept, attr_fault-width, attr_fault-AS_PATH, attr_fault-AGGREGATOR}
use Rattle.spk_native.proofs.FormedLemmas.{IsFormed, IsFormed-route_of, IsFormed-without_attribute, route_of-each}
use Rattle.spk_native.proofs.FormedLemmas.{is_some-route_of, absent-route_of, each-with_value, each-without_attribute}
use Rattle.spk_native.proofs.FormedLemmas.{is_at-other}
use Rattle.spk_native.proofs.RebuildsLemmas.{kept, less, over, at-set_if, at-with_value, at-without, rising-set_if}
use Rattle.spk_native.proofs.RebuildsLemmas.{rising-without}
use Rattle.spk_native.proofs.ReceiptLemmas.{by_code, inflow-set_if, inflow-wide, length-AGGREGATOR}
use Rattle.spk_native.proofs.ValuesLemmas.{path_ok-no_fault}
use Rattle.spk_native.proofs.WideNarrowLemmas.{inflow-narrow}

or_else_none : {A : Type 0} (a b : Option A) → or_else a b ≡ None → (a ≡ None) × (b ≡ None)
or_else_none None b e = (refl, e)
or_else_none (Some x) b e = absurd (cc e)

option_map_none : {A B : Type 0} (f : A → B) (o : Option A) → option_map f o ≡ None → o ≡ None
option_map_none f None e = refl
option_map_none f (Some x) e = absurd (cc e)

is_none_none : {A : Type 0} (o : Option A) → is_none o ≡ true → o ≡ None
is_none_none None e = refl
is_none_none (Some x) e = absurd (cc e)

checked-all : (w : ℕ) (xs : List (List ℕ)) → first_check (map (attribute_check w) xs) ≡ None
    → AllByRecursion (λ x. attr_fault w (attr_code x) (kept_flags (attr_flags x)) (attr_value x) ≡ None) xs
checked-all w [] e = tt
checked-all w (x ∷ xs) e =
    let parts = or_else_none (attribute_check w x) (first_check (map (attribute_check w) xs)) e in
    let fault = attr_fault w (attr_code x) (attr_flags x) (attr_value x) in (
      attr_fault-kept w (attr_code x) (attr_flags x) (attr_value x)
          ∙ option_map_none (attr_notice x) fault parts.0,
      checked-all w xs parts.1,
    )

-- the checks of a section without fault
record IsChecked (w : ℕ) (s : List ℕ) (announces : Bool) : Type 0 where
  each : first_check (map (attribute_check w) (attributes s)) ≡ None
  complete : (if announces then option_map missing_notice (missing (codes_of s)) else None) ≡ None

IsChecked-judge_section : (w : ℕ) (s : List ℕ) (announces : Bool) → judge_section w s announces ≡ None
    → IsChecked w s announces
unfolding judge_section
IsChecked-judge_section w s announces e =
    let first = or_else_none _ _ e in
    let second = or_else_none _ _ first.1 in
    record { each = second.0; complete = (or_else_none _ _ second.1).0 }

-- the section of an UPDATE without fault has none
pub judge_section-judge : (w : ℕ) (body : List ℕ) (u : Update) → judge w body ≡ None → update_of body ≡ Some u
    → judge_section w u.section (not (length u.nlri == 0)) ≡ None
unfolding judge
judge_section-judge w body u e parts = elim (cases_Bool (lengths_fit body)) [
  | inl fit ↦
      let judged : judge_parts w (update_parts body) ≡ None = rw fit at e in
      let some : Some (update_parts body) ≡ Some u = rw fit at parts in
      let same : update_parts body ≡ u = cc some in
      let mine : judge_parts w u ≡ None = ap (judge_parts w) (sym same) ∙ judged in
      (or_else_none _ _ (or_else_none _ _ mine).1).0
  | inr not_fit ↦ let no : None ≡ Some u = rw not_fit at parts in absurd (cc no)
]

-- no attribute of a section without fault is malformed
pub IsFaultless-route_of : (w : ℕ) (s : List ℕ) (announces : Bool) → judge_section w s announces ≡ None
    → IsFaultless w (route_of s)
IsFaultless-route_of w s announces e =
    route_of-each (λ code a. attr_fault w code a.flags a.value ≡ None) s
    (checked-all w (attributes s) (IsChecked-judge_section w s announces e).each)

find_none : (p : ℕ → Bool) (x : ℕ) (xs : List ℕ) → find p (x ∷ xs) ≡ None → (p x ≡ false) × (find p xs ≡ None)
find_none p x xs e = elim (cases_Bool (p x)) [
  | inl here ↦ let no : Some x ≡ None = rw here at e in absurd (cc no)
  | inr other ↦ (other, rw other at e)
]

not_false : (b : Bool) → not b ≡ false → b ≡ true
not_false true e = refl
not_false false e = absurd (cc e)

not_true : (b : Bool) → not b ≡ true → b ≡ false
not_true true e = absurd (cc e)
not_true false e = refl

-- a route has the attributes that an announcement must have
pub record HasMandatory (r : Route) : Type 0 where
  pub origin : is_some (attribute_at r ORIGIN) ≡ true
  pub path : is_some (attribute_at r AS_PATH) ≡ true
  pub next_hop : is_some (attribute_at r NEXT_HOP) ≡ true

-- that of a section without fault, with prefixes that are announced
pub HasMandatory-route_of : (w : ℕ) (s : List ℕ) → judge_section w s true ≡ None → HasMandatory (route_of s)
HasMandatory-route_of w s e =
    let codes = codes_of s in
    let p : ℕ → Bool = λ code. not (has_code codes code) in
    let none : missing codes ≡ None =
    option_map_none missing_notice (missing codes) (IsChecked-judge_section w s true e).complete in
    let first = find_none p ORIGIN (AS_PATH ∷ NEXT_HOP ∷ []) none in
    let second = find_none p AS_PATH (NEXT_HOP ∷ []) first.1 in
    let third = find_none p NEXT_HOP [] second.1 in
    record {
      origin = is_some-route_of s ORIGIN (not_false (has_code codes ORIGIN) first.0);
      path = is_some-route_of s AS_PATH (not_false (has_code codes AS_PATH) second.0);
      next_hop = is_some-route_of s NEXT_HOP (not_false (has_code codes NEXT_HOP) third.0);
    }

-- what a clean section is
record IsClean (s : List ℕ) : Type 0 where
  judged : judge_section 4 s true ≡ None
  no_path4 : has_code (codes_of s) AS4_PATH ≡ false
  no_aggregator4 : has_code (codes_of s) AS4_AGGREGATOR ≡ false

IsClean-is_clean : (s : List ℕ) → is_clean s ≡ true → IsClean s
IsClean-is_clean s e =
    let codes = codes_of s in
    let both = and_parts (is_none (judge_section 4 s true) && not (has_code codes AS4_PATH))
    (not (has_code codes AS4_AGGREGATOR)) e in
    let first = and_parts (is_none (judge_section 4 s true)) (not (has_code codes AS4_PATH)) both.0 in
    record {
      judged = is_none_none (judge_section 4 s true) first.0;
      no_path4 = not_true (has_code codes AS4_PATH) first.1;
      no_aggregator4 = not_true (has_code codes AS4_AGGREGATOR) both.1;
    }

-- the route of a clean section
pub HasNoFault-clean : (s : List ℕ) → is_clean s ≡ true → HasNoFault (route_of s)
HasNoFault-clean s e = IsFaultless-route_of 4 s true (IsClean-is_clean s e).judged

pub HasMandatory-clean : (s : List ℕ) → is_clean s ≡ true → HasMandatory (route_of s)
HasMandatory-clean s e = HasMandatory-route_of 4 s (IsClean-is_clean s e).judged

-- the law
pub wide_narrow_holds : wide_narrow_law
wide_narrow_holds s octets e =
    let is = IsClean-is_clean s e in
    inflow-narrow (route_of s) (record {
      formed = IsFormed-route_of s octets;
      sound = HasNoFault-clean s e;
      no_path4 = absent-route_of s AS4_PATH is.no_path4;
      no_aggregator4 = absent-route_of s AS4_AGGREGATOR is.no_aggregator4;
    })

-- a mandatory attribute that is there is sound
pub has_sound-HasNoFault : (r : Route) (code : ℕ) → HasNoFault r → is_some (attribute_at r code) ≡ true
    → has_sound r code ≡ true
has_sound-HasNoFault r code none there = go (attribute_at r code) refl there
  where
    go : (o : Option Attribute) → attribute_at r code ≡ o → is_some o ≡ true → is_sound code o ≡ true
    go None is e = absurd (cc e)
    go (Some a) is e = ap is_none (none code a is)

-- edits of a route
pub IsFaultless-with_attribute : (w : ℕ) (r : Route) (code flags : ℕ) (value : List ℕ) → IsFaultless w r
    → attr_fault w code flags value ≡ None → IsFaultless w (with_attribute r code flags value)
IsFaultless-with_attribute w r code flags value none new =
    each-with_value (λ q a. attr_fault w q a.flags a.value ≡ None) r code
    (record { flags = kept_flags flags; value = value }) (attr_fault-kept w code flags value ∙ new) none

pub IsFaultless-without_attribute : (w : ℕ) (r : Route) (code : ℕ) → IsStrictlySortedBy nat_cmp (keys_of r)
    → IsFaultless w r → IsFaultless w (without_attribute r code)
IsFaultless-without_attribute w r code rising none =
    each-without_attribute (λ q a. attr_fault w q a.flags a.value ≡ None) r code rising none

is_some-without_attribute : (r : Route) (code q : ℕ) → IsStrictlySortedBy nat_cmp (keys_of r)
    → is_at (nat_cmp code) q ≡ false → is_some (attribute_at r q) ≡ true
    → is_some (attribute_at (without_attribute r code) q) ≡ true
is_some-without_attribute r code q rising other there =
    ap is_some (at-without r code q rising)
    ∙ ap (λ b. is_some (cond b None (attribute_at r q))) other ∙ there

is_some-with_value : (r : Route) (code : ℕ) (a : Attribute) (q : ℕ) → is_some (attribute_at r q) ≡ true
    → is_some (attribute_at (with_value nat_cmp r code a) q) ≡ true
is_some-with_value r code a q there = elim (cases_Bool (is_at (nat_cmp code) q)) [
  | inl here ↦ ap is_some (at-with_value r code a q) ∙ ap (λ b. is_some (cond b (Some a) (attribute_at r q))) here
  | inr other ↦
      ap is_some (at-with_value r code a q) ∙ ap (λ b. is_some (cond b (Some a) (attribute_at r q))) other ∙ there
]

pub HasMandatory-with_attribute : (r : Route) (code flags : ℕ) (value : List ℕ) → HasMandatory r
    → HasMandatory (with_attribute r code flags value)
HasMandatory-with_attribute r code flags value is =
    let a : Attribute = record { flags = kept_flags flags; value = value } in
    record {
      origin = is_some-with_value r code a ORIGIN is.origin;
      path = is_some-with_value r code a AS_PATH is.path;
      next_hop = is_some-with_value r code a NEXT_HOP is.next_hop;
    }

-- of another code than the mandatory ones
pub HasMandatory-without_attribute : (r : Route) (code : ℕ) → IsStrictlySortedBy nat_cmp (keys_of r)
    → NEXT_HOP < code → HasMandatory r → HasMandatory (without_attribute r code)
HasMandatory-without_attribute r code rising above is = record {
  origin = is_some-without_attribute r code ORIGIN rising
      (is_at-other code ORIGIN (λ same. omega (arith, same, above))) is.origin;
  path = is_some-without_attribute r code AS_PATH rising
      (is_at-other code AS_PATH (λ same. omega (arith, same, above))) is.path;
  next_hop = is_some-without_attribute r code NEXT_HOP rising
      (is_at-other code NEXT_HOP (λ same. omega (arith, same, above))) is.next_hop;
}

-- a route as it is received, LOCAL_PREF of an external peer removed
module _ (P : Route → Type 0) (peer : Side) (r : Route) where
  received_by : P r → P (without_attribute r LOCAL_PREF) → P (as_received peer r)
  received_by whole less = elim (cases_Bool (is_external peer)) [
    | inl external ↦ subst P (ap (λ b. if b then without_attribute r LOCAL_PREF else r) (sym external)) less
    | inr other ↦ subst P (ap (λ b. if b then without_attribute r LOCAL_PREF else r) (sym other)) whole
  ]

pub IsFormed-as_received : (peer : Side) (r : Route) → IsFormed r → IsFormed (as_received peer r)
IsFormed-as_received peer r is = received_by IsFormed peer r is (IsFormed-without_attribute r LOCAL_PREF is)

pub IsFaultless-as_received : (w : ℕ) (peer : Side) (r : Route) → IsFormed r → IsFaultless w r
    → IsFaultless w (as_received peer r)
IsFaultless-as_received w peer r is none =
    received_by (IsFaultless w) peer r none (IsFaultless-without_attribute w r LOCAL_PREF is.rising none)

pub HasMandatory-as_received : (peer : Side) (r : Route) → IsFormed r → HasMandatory r
    → HasMandatory (as_received peer r)
HasMandatory-as_received peer r is there =
    received_by HasMandatory peer r there
    (HasMandatory-without_attribute r LOCAL_PREF is.rising (omega arith) there)

-- the value that AS_PATH gets is a path
path_ok-good : (v : List ℕ) (o : Option Attribute) → IfSome o (λ a. AreOctets a.value) → path_ok 2 v ≡ true
    → path_ok 4 (path_with (good is_good_path o) v) ≡ true
path_ok-good v None octets ok = path_ok-wide_path v ok
path_ok-good v (Some a) octets ok = elim (cases_Bool (is_good_path a)) [
  | inl usable ↦
      ap (λ b. path_ok 4 (path_with (if b then Some a.value else None) v)) usable
      ∙ path_ok-merge v a.value octets ok (and_parts (is_optional_transitive a.flags) (path_ok 4 a.value) usable).1
  | inr not_usable ↦
      ap (λ b. path_ok 4 (path_with (if b then Some a.value else None) v)) not_usable ∙ path_ok-wide_path v ok
]

octets_at : (r : Route) (code : ℕ) → IsFormed r → IfSome (attribute_at r code) (λ a. AreOctets a.value)
octets_at r code is = go (attribute_at r code) refl
  where
    go : (o : Option Attribute) → attribute_at r code ≡ o → IfSome o (λ a. AreOctets a.value)
    go None e = tt
    go (Some a) e = is.octets code a e

path_ok-used : (r : Route) (v : List ℕ) → IsFormed r → path_ok 2 v ≡ true
    → path_ok 4 (path_with (used_path (four_of r)) v) ≡ true
path_ok-used r v is ok = elim (cases_Bool (aggregated_since (attribute_at r 7) (good_aggregator r))) [
  | inl since ↦ ap (λ b. path_ok 4 (path_with (if b then None else good_path r) v)) since ∙ path_ok-wide_path v ok
  | inr before ↦
      ap (λ b. path_ok 4 (path_with (if b then None else good_path r) v)) before
      ∙ path_ok-good v (attribute_at r 17) (octets_at r 17 is) ok
]

-- the value that AGGREGATOR gets has eight octets
length-wide_aggregator : (v : List ℕ) → length v ≡ 6 → length (wide_aggregator v) ≡ 8
length-wide_aggregator v six =
    omega (arith, length-append (four_octets (two_at v 0)) (drop 2 v), length-drop 2 v, six)

length-good : (v : List ℕ) (o : Option Attribute) → length v ≡ 6
    → length (aggregator_with (good is_good_aggregator o) v) ≡ 8
length-good v None six = length-wide_aggregator v six
length-good v (Some a) six = elim (cases_Bool (is_good_aggregator a)) [
  | inl usable ↦
      ap (λ b. length (aggregator_with (if b then Some a.value else None) v)) usable
      ∙ eqb-true (length a.value) 8 (and_parts (is_optional_transitive a.flags) (length a.value == 8) usable).1
  | inr not_usable ↦
      ap (λ b. length (aggregator_with (if b then Some a.value else None) v)) not_usable ∙ length-wide_aggregator v six
]

length-used : (r : Route) (v : List ℕ) → length v ≡ 6 → length (aggregator_with (used_aggregator (four_of r)) v) ≡ 8
length-used r v six = elim (cases_Bool (aggregated_since (attribute_at r 7) (good_aggregator r))) [
  | inl since ↦
      ap (λ b. length (aggregator_with (if b then None else good_aggregator r) v)) since ∙ length-wide_aggregator v six
  | inr before ↦
      ap (λ b. length (aggregator_with (if b then None else good_aggregator r) v)) before
      ∙ length-good v (attribute_at r 18) six
]

-- what a route that was received in two octets has for a code
abbrev flowed : Route → ℕ → Option Attribute → Option Attribute
flowed r q x =
    let f = wide_four (four_of r) in
    less 18 q (less 17 q (over 7 f.aggregator q (over 2 f.path q x)))

at-inflow : (r : Route) (q : ℕ) → IsStrictlySortedBy nat_cmp (keys_of r)
    → attribute_at (inflow r false) q ≡ flowed r q (attribute_at r q)
at-inflow r q rising =
    let f = wide_four (four_of r) in
    let r2 = set_if 2 f.path r in
    let r7 = set_if 7 f.aggregator r2 in
    let s7 = rising-set_if r2 7 f.aggregator (rising-set_if r 2 f.path rising) in
    let s17 = rising-without r7 17 s7 in
    ap (λ s. attribute_at s q) (inflow-set_if r)
    ∙ at-without (without_attribute r7 17) 18 q s17
    ∙ ap (less 18 q) (at-without r7 17 q s7)
    ∙ ap (λ x. less 18 q (less 17 q x)) (at-set_if r2 7 f.aggregator q)
    ∙ ap (λ x. less 18 q (less 17 q (over 7 f.aggregator q x))) (at-set_if r 2 f.path q)

valued_fault : (w code : ℕ) (to : List ℕ → List ℕ) (o : Option Attribute)
    → IfSome o (λ b. attr_fault w code b.flags (to b.value) ≡ None) → (a : Attribute)
    → or_other (kept (valued to o)) o ≡ Some a → attr_fault w code a.flags a.value ≡ None
valued_fault w code to None none a e = absurd (cc e)
valued_fault w code to (Some b) none a e =
    let same : record { flags = kept_flags b.flags; value = to b.value } ≡ a = cc e in
    subst (λ (v : Attribute). attr_fault w code v.flags v.value ≡ None) same
    (attr_fault-kept w code b.flags (to b.value) ∙ none)

path_fault : (r : Route) → IsFormed r → IsFaultless 2 r
    → IfSome (attribute_at r 2) (λ b. attr_fault 4 2 b.flags (path_with (used_path (four_of r)) b.value) ≡ None)
path_fault r is none = go (attribute_at r 2) refl
  where
    go : (o : Option Attribute) → attribute_at r 2 ≡ o
        → IfSome o (λ b. attr_fault 4 2 b.flags (path_with (used_path (four_of r)) b.value) ≡ None)
    go None e = tt
    go (Some b) e =
        let old = none 2 b e in
        attr_fault-AS_PATH 2 4 b.flags b.value (path_with (used_path (four_of r)) b.value) old
        (path_ok-used r b.value is (path_ok-no_fault 2 b.flags b.value old))

aggregator_fault : (r : Route) → IsFaultless 2 r
    → IfSome (attribute_at r 7) (λ b.
    attr_fault 4 7 b.flags (aggregator_with (used_aggregator (four_of r)) b.value) ≡ None)
aggregator_fault r none = go (attribute_at r 7) refl
  where
    go : (o : Option Attribute) → attribute_at r 7 ≡ o
        → IfSome o (λ b. attr_fault 4 7 b.flags (aggregator_with (used_aggregator (four_of r)) b.value) ≡ None)
    go None e = tt
    go (Some b) e =
        let old = none 7 b e in
        attr_fault-AGGREGATOR 2 4 b.flags b.value (aggregator_with (used_aggregator (four_of r)) b.value) old
        (length-used r b.value (length-AGGREGATOR 2 b.flags b.value old))

differs : (k q : ℕ) → is_eq (nat_cmp k q) ≡ false → q ≡ k → ⊥
differs k q other same =
    let here : is_eq (nat_cmp k q) ≡ true = ap is_eq (nat_cmp-equal k q (sym same)) in
    cc (here, other)

-- a received route has no fault with AS numbers of four octets
pub HasNoFault-inflow : (r : Route) (wide : Bool) → IsFormed r → IsFaultless (width_of wide) r
    → HasNoFault (inflow r wide)
HasNoFault-inflow r true is none =
    let r17 = without_attribute r 17 in
    subst (IsFaultless 4) (sym (inflow-wide r))
    (IsFaultless-without_attribute 4 r17 18 (rising-without r 17 is.rising)
    (IsFaultless-without_attribute 4 r 17 is.rising none))
HasNoFault-inflow r false is none = λ code a e.
    by_code (λ q. (a : Attribute) → flowed r q (attribute_at r q) ≡ Some a → attr_fault 4 q a.flags a.value ≡ None)
    (valued_fault 4 2 (path_with (used_path (four_of r))) (attribute_at r 2) (path_fault r is none))
    (valued_fault 4 7 (aggregator_with (used_aggregator (four_of r))) (attribute_at r 7) (aggregator_fault r none))
    (λ a no. absurd (cc no))
    (λ a no. absurd (cc no))
    (λ q f2 f7 f17 f18 a e.
    let there : attribute_at r q ≡ Some a = rw (f2, f7, f17, f18) at e in
    attr_fault-width 4 2 q a.flags a.value (differs 2 q f2) (differs 7 q f7) ∙ none q a there)
    code a (sym (at-inflow r code is.rising) ∙ e)

is_some-valued : (to : List ℕ → List ℕ) (o : Option Attribute) → is_some o ≡ true
    → is_some (or_other (kept (valued to o)) o) ≡ true
is_some-valued to None e = e
is_some-valued to (Some a) e = refl

pub HasMandatory-inflow : (r : Route) (wide : Bool) → IsFormed r → HasMandatory r → HasMandatory (inflow r wide)
HasMandatory-inflow r true is there =
    let r17 = without_attribute r 17 in
    subst HasMandatory (sym (inflow-wide r))
    (HasMandatory-without_attribute r17 18 (rising-without r 17 is.rising) (omega arith)
    (HasMandatory-without_attribute r 17 is.rising (omega arith) there))
HasMandatory-inflow r false is there = record {
  origin = ap is_some (at-inflow r ORIGIN is.rising) ∙ there.origin;
  path = ap is_some (at-inflow r AS_PATH is.rising)
      ∙ is_some-valued (path_with (used_path (four_of r))) (attribute_at r 2) there.path;
  next_hop = ap is_some (at-inflow r NEXT_HOP is.rising) ∙ there.next_hop;
}

-- what a section without fault becomes when it is received
pub HasNoFault-received : (s : List ℕ) (peer : Side) (wide announces : Bool) → AreOctets s
    → judge_section (width_of wide) s announces ≡ None → HasNoFault (inflow (as_received peer (route_of s)) wide)
HasNoFault-received s peer wide announces octets e =
    let is = IsFormed-route_of s octets in
    HasNoFault-inflow (as_received peer (route_of s)) wide (IsFormed-as_received peer (route_of s) is)
    (IsFaultless-as_received (width_of wide) peer (route_of s) is
    (IsFaultless-route_of (width_of wide) s announces e))

pub HasMandatory-received : (s : List ℕ) (peer : Side) (wide : Bool) → AreOctets s
    → judge_section (width_of wide) s true ≡ None → HasMandatory (inflow (as_received peer (route_of s)) wide)
HasMandatory-received s peer wide octets e =
    let is = IsFormed-route_of s octets in
    HasMandatory-inflow (as_received peer (route_of s)) wide (IsFormed-as_received peer (route_of s) is)
    (HasMandatory-as_received peer (route_of s) is (HasMandatory-route_of (width_of wide) s e))

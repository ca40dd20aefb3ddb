-- What the value of a step says of it.
use Rattle.std.proofs.Common.{◌≡◌, ℕ, zero, suc, ◌<◌, ◌≤◌, ℤ, pos, negsuc, Bool, true, false, not, if◌then◌else◌, List}
use Rattle.std.proofs.Common.{[], ◌∷◌, length, get_or, Option, Some, None, Ok, nat_le, ◌⊎◌, inl, inr, refl, ap, sym}
use Rattle.std.proofs.Common.{arith}
use Rattle.std.specs.List.{list_any}
use Rattle.std.proofs.lemmas.Bool.{cases_Bool, leb-true, or_parts}
use Rattle.toml.specs.Data.{Data, Members, get_member, as_integer, as_array}
use Rattle.xb_domain.specs.declared.bad.BadKind.{BadKind}
use Rattle.xb_domain.specs.declared.bad.BadKind.TheVariants.{Shape, Missing, Range, Count}
use Rattle.xb_fields.specs.declared.fault.Location.{Location}
use Rattle.xb_fields.specs.Fields.{Judged, ◌>>=◌, present, must, is_between, number_between, number, string_in, text}
use Rattle.xb_fields.specs.Fields.{data_of, list_of, required, optional}
use Rattle.xb_fields.proofs.StepLemmas.{bind-ok}

-- a value that is there
pub present-ok : {A : Type 0} (at : Location) (kind : BadKind) (o : Option A) (x : A) → present at kind o ≡ Ok x → o ≡ Some x
present-ok at kind None x e = absurd (cc e)
present-ok at kind (Some y) x e = let same : y ≡ x = cc e in ap Some same

must-ok : (at : Location) (kind : BadKind) (test : Bool) (u : Unit {0}) → must at kind test ≡ Ok u → test ≡ true
must-ok at kind true u e = refl
must-ok at kind false u e = absurd (cc e)

-- a test that must be passed, and the step after it
pub bind-must : {B : Type 0} (at : Location) (kind : BadKind) (test : Bool) (f : Unit {0} → Judged B) (y : B) → (must at kind test >>= f) ≡ Ok y → (test ≡ true) × (f tt ≡ Ok y)
bind-must at kind test f y e = let b = bind-ok (must at kind test) f y e in (must-ok at kind test b.0 b.1, b.2)

number_between-some : (least most : ℕ) (z : ℤ) (n : ℕ) → number_between least most z ≡ Some n → is_between least most n ≡ true
number_between-some least most (pos m) n e =
    elim (cases_Bool (is_between least most m)) [
      | inl within ↦ let same : Some m ≡ Some n = rw within at e in let same_number : m ≡ n = cc same in rw (← same_number) within
      | inr other ↦ let none : None ≡ Some n = rw other at e in absurd (cc none)
    ]
number_between-some least most (negsuc m) n e = absurd (cc e)

-- a number is in its range
pub number-ok : (at : Location) (least most : ℕ) (d : Data) (n : ℕ) → number at least most d ≡ Ok n → is_between least most n ≡ true
unfolding number
number-ok at least most d n e =
    let b = bind-ok (present at Shape (as_integer d)) (λ z. present at Range (number_between least most z)) n e in
    number_between-some least most b.0 n (present-ok at Range (number_between least most b.0) n b.2)

-- a text is read
pub text-ok : {A : Type 0} (at : Location) (read : List ℕ → Option A) (d : Data) (x : A) → text at read d ≡ Ok x → (s : List ℕ) × (read s ≡ Some x)
text-ok at read d x e =
    let b = bind-ok (string_in at d) (λ s. present at Range (read s)) x e in
    (b.0, present-ok at Range (read b.0) x b.2)

-- a list has no more values than it may
pub length-list_of : (at : Location) (most : ℕ) (d : Data) (ds : List Data) → list_of at most d ≡ Ok ds → length ds ≤ most
unfolding list_of
length-list_of at most d ds e =
    let b = bind-ok (present at Shape (as_array d)) (λ items. must at Count (nat_le (length (data_of items)) most) >>= (λ u. Ok (data_of items))) ds e in
    let m = bind-must at Count (nat_le (length (data_of b.0)) most) (λ u. Ok (data_of b.0)) ds b.2 in
    let same : data_of b.0 ≡ ds = cc m.1 in
    rw (← same) (leb-true _ _ m.0)

-- a key that must be there gives what its value gives
pub required-ok : {A : Type 0} (at : Location) (key : List ℕ) (read : Data → Judged A) (ms : Members) (x : A) → required at key read ms ≡ Ok x → (d : Data) × (read d ≡ Ok x)
unfolding required
required-ok at key read ms x e = let b = bind-ok (present at Missing (get_member key ms)) read x e in (b.0, b.2)

elim-optional : {A : Type 0} (default : A) (read : Data → Judged A) (o : Option Data) (x : A)
    → elim o as (λ _. Judged A) [ None ↦ Ok default | Some d ↦ read d ] ≡ Ok x → (x ≡ default) ⊎ ((d : Data) × (read d ≡ Ok x))
elim-optional default read None x e = let same : default ≡ x = cc e in inl (sym same)
elim-optional default read (Some d) x e = inr (d, e)

-- a key that may be absent gives its default, or what its value gives
pub optional-ok : {A : Type 0} (key : List ℕ) (default : A) (read : Data → Judged A) (ms : Members) (x : A) → optional key default read ms ≡ Ok x → (x ≡ default) ⊎ ((d : Data) × (read d ≡ Ok x))
unfolding optional
optional-ok key default read ms x e = elim-optional default read (get_member key ms) x e

-- a list at a key that may be absent
pub length-optional_list : (at : Location) (key : List ℕ) (most : ℕ) (ms : Members) (ds : List Data) → optional key [] (list_of at most) ms ≡ Ok ds → length ds ≤ most
length-optional_list at key most ms ds e =
    elim (optional-ok key [] (list_of at most) ms ds e) [
      | inl none ↦ rw none (omega arith)
      | inr (d, read) ↦ length-list_of at most d ds read
    ]

-- a number at a key that must be there is in its range
pub required_number-ok : (at : Location) (key : List ℕ) (least most : ℕ) (ms : Members) (n : ℕ) → required at key (number at least most) ms ≡ Ok n → is_between least most n ≡ true
required_number-ok at key least most ms n e = let r = required-ok at key (number at least most) ms n e in number-ok at least most r.0 n r.1

-- a value that is given if a test passes
pub some-if : {A : Type 0} (test : Bool) (x y : A) → (if test then Some x else None) ≡ Some y → (test ≡ true) × (x ≡ y)
some-if true x y e = (refl, cc e)
some-if false x y e = absurd (cc e)

-- the opposite of a test
pub not-true : (b : Bool) → not b ≡ true → b ≡ false
not-true true e = absurd (cc e)
not-true false e = refl

-- no element passes a test that none passes
pub list_any-false : {A : Type 0} (test : A → Bool) (xs : List A) → list_any test xs ≡ false → (k : ℕ) (d : A) → k < length xs → test (get_or xs k d) ≡ false
list_any-false test [] e k d h = absurd (omega arith)
list_any-false test (x ∷ xs) e zero d h = (or_parts (test x) (list_any test xs) e).0
list_any-false test (x ∷ xs) e (suc k) d h = list_any-false test xs (or_parts (test x) (list_any test xs) e).1 k d (omega arith)

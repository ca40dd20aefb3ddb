-- Chains of steps, and entries one after another.
use Rattle.std.proofs.Common.{Result, ◌≡◌, ℕ, ◌+◌, ◌<◌, ◌≤◌, List, [], ◌∷◌, ◌++◌, length, map, drop, get_or, Ok, Err}
use Rattle.std.proofs.Common.{refl, ap, sym, ◌∙◌, arith, length-append}
use Rattle.std.proofs.Math.ListN.{drop_of_length-le}
use Rattle.std.proofs.lemmas.List.{drop_more}
use Rattle.toml.specs.Data.{Data}
use Rattle.toml.specs.View.{view}
use Rattle.toml.specs.declared.value.Value.{Value}
use Rattle.xb_fields.specs.Fields.{◌>>=◌, judged_from}

-- if a chain gives a value, its first step gives one
pub bind-ok : {A B F : Type 0} (m : Result A F) (f : A → Result B F) (y : B) → (m >>= f) ≡ Ok y → (x : A) × (m ≡ Ok x) × (f x ≡ Ok y)
bind-ok (Ok x) f y e = (x, refl, e)
bind-ok (Err bad) f y e = absurd (cc e)

-- values of equal results are equal
pub ok-injective : {A F : Type 0} (x y : A) → (let r : Result A F = Ok x in r) ≡ Ok y → x ≡ y
ok-injective x y e = cc e

-- what accepted entries keep: a fact of the list that each step keeps
pub judged_from-keeps : {A F : Type 0} (judge : ℕ → List A → Data → Result A F) (P : List A → Type 0)
    → ((i : ℕ) (earlier : List A) (d : Data) (x : A) → P earlier → judge i earlier d ≡ Ok x → P (earlier ++ x ∷ []))
    → (i : ℕ) (earlier : List A) (ds : List Data) (out : List A) → P earlier → judged_from judge i earlier ds ≡ Ok out → P out
judged_from-keeps judge P step i earlier [] out start e = rw (← ok-injective earlier out e) start
judged_from-keeps judge P step i earlier (d ∷ ds) out start e =
    let b = bind-ok (judge i earlier d) (λ x. judged_from judge (i + 1) (earlier ++ x ∷ []) ds) out e in
    judged_from-keeps judge P step (i + 1) (earlier ++ b.0 ∷ []) ds out (step i earlier d b.0 start b.1) b.2

-- there are as many as values
pub length-judged_from : {A F : Type 0} (judge : ℕ → List A → Data → Result A F) (i : ℕ) (earlier : List A) (ds : List Data) (out : List A)
    → judged_from judge i earlier ds ≡ Ok out → length out ≡ length earlier + length ds
length-judged_from judge i earlier [] out e = rw (← ok-injective earlier out e) (omega arith)
length-judged_from judge i earlier (d ∷ ds) out e =
    let b = bind-ok (judge i earlier d) (λ x. judged_from judge (i + 1) (earlier ++ x ∷ []) ds) out e in
    omega (arith, length-judged_from judge (i + 1) (earlier ++ b.0 ∷ []) ds out b.2, length-append earlier (b.0 ∷ []))

module _ {A F : Type 0} (judge : ℕ → List A → Data → Result A F) where
  -- the values from an index on, if the first of them gives an entry, if it has a fault, and if no value is left
  pub judged_from-more : (vs : List Value) (i : ℕ) (v : Value) (kept : List A) (x : A) (out : Result (List A) F) → i < length vs → v ≡ get_or vs i v → judge (i + 1) kept (view v) ≡ Ok x
      → judged_from judge (i + 1) kept (map view (drop i vs)) ≡ out → judged_from judge (i + 1 + 1) (kept ++ x ∷ []) (map view (drop (i + 1) vs)) ≡ out
  judged_from-more vs i v kept x out h at good e =
      let here : drop i vs ≡ v ∷ drop (i + 1) vs = drop_more vs i v h ∙ ap (λ w. w ∷ drop (i + 1) vs) (sym at) in
      sym (ap (λ r. r >>= (λ y. judged_from judge (i + 1 + 1) (kept ++ y ∷ []) (map view (drop (i + 1) vs)))) good) ∙ sym (ap (λ rest. judged_from judge (i + 1) kept (map view rest)) here) ∙ e

  pub judged_from-bad : (vs : List Value) (i : ℕ) (v : Value) (kept : List A) (bad : F) (out : Result (List A) F) → i < length vs → v ≡ get_or vs i v → judge (i + 1) kept (view v) ≡ Err bad
      → judged_from judge (i + 1) kept (map view (drop i vs)) ≡ out → out ≡ Err bad
  judged_from-bad vs i v kept bad out h at wrong e =
      let here : drop i vs ≡ v ∷ drop (i + 1) vs = drop_more vs i v h ∙ ap (λ w. w ∷ drop (i + 1) vs) (sym at) in
      sym e ∙ ap (λ rest. judged_from judge (i + 1) kept (map view rest)) here ∙ ap (λ r. r >>= (λ y. judged_from judge (i + 1 + 1) (kept ++ y ∷ []) (map view (drop (i + 1) vs)))) wrong

  pub judged_from-end : (vs : List Value) (i : ℕ) (kept : List A) (out : Result (List A) F) → length vs ≤ i
      → judged_from judge (i + 1) kept (map view (drop i vs)) ≡ out → out ≡ Ok kept
  judged_from-end vs i kept out h e = sym e ∙ ap (λ rest. judged_from judge (i + 1) kept (map view rest)) (drop_of_length-le vs h)

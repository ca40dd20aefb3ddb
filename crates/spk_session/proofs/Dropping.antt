-- What waits if some of it is to be dropped.
use Rattle.std.proofs.Common.{◌≡◌, ◌<◌, refl, sym, ◌∙◌, ap, ℕ, zero, suc, Bool, true, false, List}
use Rattle.std.proofs.Common.{[], ◌∷◌, length, take, ◌+◌, add-one, arith, replicate}
use Rattle.std.specs.Prelude.{slice_index_or}
use Rattle.std.specs.List.{slice_set}
use Rattle.std.proofs.lemmas.List.Elements.{All-get_or, All-from_get_or}
use Rattle.spk_session.specs.Meaning.{kept, kept_one}
use Rattle.spk_session.specs.Taking.{IsDrained}
use Rattle.spk_session.specs.Hosting.{AreDrained}

-- nothing can be taken from an empty buffer
pub none_left : IsDrained []
none_left = record { none = refl; good = refl; short = omega arith }

pub kept-calm : (n : ℕ) (waits : List (List ℕ)) → kept (replicate n false) waits ≡ waits
kept-calm zero waits = refl
kept-calm (suc n) [] = refl
kept-calm (suc n) (w ∷ waits) = ap (λ (l : List (List ℕ)). w ∷ l) (kept-calm n waits)

pub kept-set : (ds : List Bool) (i : ℕ) (waits : List (List ℕ)) → i < length ds
    → kept (slice_set ds i true) waits ≡ slice_set (kept ds waits) i []
kept-set [] i waits h = absurd (omega (arith, h))
kept-set (d ∷ ds) zero [] h = refl
kept-set (d ∷ ds) zero (w ∷ waits) h = refl
kept-set (d ∷ ds) (suc i) [] h = refl
kept-set (d ∷ ds) (suc i) (w ∷ waits) h = let less : i < length ds = omega (arith, h) in
    ap (λ (l : List (List ℕ)). kept_one d w ∷ l) (kept-set ds i waits less)

-- octets at an index are dropped if a flag is set
abbrev pub kept_at : Bool → ℕ → List (List ℕ) → List (List ℕ)
kept_at true i waits = slice_set waits i []
kept_at false i waits = waits

kept_at-suc : (d : Bool) (i : ℕ) (w : List ℕ) (waits : List (List ℕ))
    → kept_at d (suc i) (w ∷ waits) ≡ w ∷ kept_at d i waits
kept_at-suc true i w waits = refl
kept_at-suc false i w waits = refl

kept_at-none : (d : Bool) (i : ℕ) → kept_at d i [] ≡ []
kept_at-none true i = refl
kept_at-none false i = refl

kept_at-first : (d : Bool) (w : List ℕ) (waits : List (List ℕ)) → kept_one d w ∷ waits ≡ kept_at d 0 (w ∷ waits)
kept_at-first true w waits = refl
kept_at-first false w waits = refl

-- one more flag is looked at
kept-take : (ds : List Bool) (i : ℕ) (waits : List (List ℕ)) → i < length ds
    → kept (take (suc i) ds) waits ≡ kept_at (slice_index_or ds i false) i (kept (take i ds) waits)
kept-take [] i waits h = absurd (omega (arith, h))
kept-take (d ∷ ds) zero [] h = sym (kept_at-none d 0)
kept-take (d ∷ ds) zero (w ∷ waits) h = kept_at-first d w waits
kept-take (d ∷ ds) (suc i) [] h = sym (kept_at-none (slice_index_or ds i false) (suc i))
kept-take (d ∷ ds) (suc i) (w ∷ waits) h =
    let less : i < length ds = omega (arith, h) in
    ap (λ (l : List (List ℕ)). kept_one d w ∷ l) (kept-take ds i waits less)
    ∙ sym (kept_at-suc (slice_index_or ds i false) i (kept_one d w) (kept (take i ds) waits))

pub kept-next : (ds : List Bool) (i : ℕ) (waits : List (List ℕ)) → i < length ds
    → kept (take (i + 1) ds) waits ≡ kept_at (slice_index_or ds i false) i (kept (take i ds) waits)
kept-next ds i waits h = rw add-one (kept-take ds i waits h)

-- nothing is left in a buffer of which nothing can be taken, if it is dropped
kept_drained_at : (ds : List Bool) (waits : List (List ℕ))
    → ((i : ℕ) → i < length waits → IsDrained (slice_index_or waits i []))
    → (i : ℕ) → i < length (kept ds waits) → IsDrained (slice_index_or (kept ds waits) i [])
kept_drained_at [] waits all i h = all i h
kept_drained_at (d ∷ ds) [] all i h = absurd (omega (arith, h))
kept_drained_at (true ∷ ds) (w ∷ waits) all zero h = none_left
kept_drained_at (false ∷ ds) (w ∷ waits) all zero h = let first : 0 < length (w ∷ waits) = omega arith in all 0 first
kept_drained_at (d ∷ ds) (w ∷ waits) all (suc i) h =
    let less : i < length (kept ds waits) = omega (arith, h) in
    kept_drained_at ds waits
    (λ k inside. let more : suc k < length (w ∷ waits) = omega (arith, inside) in all (suc k) more) i less

pub kept_drained : (ds : List Bool) (waits : List (List ℕ)) → AreDrained waits → AreDrained (kept ds waits)
kept_drained ds waits all =
    All-from_get_or IsDrained (kept ds waits) []
    (kept_drained_at ds waits (λ i inside. All-get_or IsDrained waits i [] inside all))

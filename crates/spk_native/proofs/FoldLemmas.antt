-- The decision of a set and the decision of two along an order: both give the one rank that is at least as good as all.
use Rattle.std.proofs.Common.{◌≡◌, refl, sym, ap, ◌∙◌, subst, ℕ, zero, suc, ◌+◌, ◌<◌, ◌≤◌, ◌⊎◌, inl, inr, Bool, true}
use Rattle.std.proofs.Common.{false, cond, List, [], ◌∷◌, length, get_or, fold, AllPairs, IsPermutation, sum_by, ◌==◌}
use Rattle.std.proofs.Common.{nat_lt, arith}
use Rattle.std.proofs.lemmas.Bool.{cases_Bool, and_parts, ltb-true, ltb-false, lt-ltb, eqb-true, eq-eqb, true≢false}
use Rattle.std.proofs.lemmas.Bool.{false_from_ne_true}
use Rattle.std.proofs.lemmas.List.Sums.{sum_by-cons}
use Rattle.std.proofs.lemmas.List.Sorted.{All-permutation, IsPermutation-sym, sum_by-IsPermutation}
use Rattle.spk_native.specs.declared.decision.Rank.{Rank}
use Rattle.spk_native.specs.declared.decision.Key.{Key}
use Rattle.spk_native.specs.declared.decision.Key.TheVariants.{Degree, Hops, Origin, Med, Kind, Cost, Id, Address}
use Rattle.spk_native.specs.Decision.{is_better, unbeaten, keys, survivors}
use Rattle.spk_native.specs.Laws.{AreApart, HaveOneMed, first_or, better_of, pairwise, fold_law}
use Rattle.spk_native.proofs.OrderLemmas.{IsIn, IsIn-unbeaten, unbeaten-IsIn, IsIn-fold, is_better-irreflexive}
use Rattle.spk_native.proofs.OrderLemmas.{one_survives}

-- not both
clash : {b : Bool} → b ≡ true → b ≡ false → ⊥
clash x y = true≢false (sym x ∙ y)

-- each rank that is better than another is better than a third, or the third is better than the other
abbrev pub IsWeak : List Rank → Type 0
IsWeak ranks =
    (key : Key) (a b c : Rank) → IsIn a ranks → IsIn b ranks → IsIn c ranks → is_better key a c ≡ true
    → (is_better key a b ≡ true) ⊎ (is_better key b c ≡ true)

-- a is at least as good as b by some keys in order
abbrev pub IsAsGood : List Key → Rank → Rank → Type 0
IsAsGood [] a b = Unit {0}
IsAsGood (key ∷ order) a b = (is_better key b a ≡ false) × ((is_better key a b ≡ true) ⊎ IsAsGood order a b)

IsAsGood-itself : (order : List Key) (a : Rank) → IsAsGood order a a
IsAsGood-itself [] a = tt
IsAsGood-itself (key ∷ order) a = (is_better-irreflexive key a, inr (IsAsGood-itself order a))

IsWeak-unbeaten : (key : Key) (ranks : List Rank) → IsWeak ranks → IsWeak (unbeaten ranks key)
IsWeak-unbeaten key ranks weak other a b c x y z =
    weak other a b c (IsIn-unbeaten key ranks a x).0 (IsIn-unbeaten key ranks b y).0 (IsIn-unbeaten key ranks c z).0

-- one that ties with an unbeaten one is unbeaten
tied_stays : (key : Key) (ranks : List Rank) (s r : Rank) → IsWeak ranks → IsIn s (unbeaten ranks key) → IsIn r ranks
    → is_better key s r ≡ false → IsIn r (unbeaten ranks key)
tied_stays key ranks s r weak x y e =
    let u = IsIn-unbeaten key ranks s x in
    unbeaten-IsIn key ranks r y
    (λ t z. false_from_ne_true (is_better key t r)
    (λ better. elim (weak key t s r z u.0 y better) [ inl over ↦ clash over (u.1 t z) | inr under ↦ clash under e ]))

-- what is left is at least as good as all
pub IsAsGood-left : (order : List Key) (ranks : List Rank) (s r : Rank) → IsWeak ranks
    → IsIn s (fold unbeaten ranks order) → IsIn r ranks → IsAsGood order s r
IsAsGood-left [] ranks s r weak x y = tt
IsAsGood-left (key ∷ order) ranks s r weak x y =
    let here = IsIn-fold order (unbeaten ranks key) s x in (
      (IsIn-unbeaten key ranks s here).1 r y,
      elim (cases_Bool (is_better key s r)) [
        | inl better ↦ inl better
        | inr tied ↦ inr (IsAsGood-left order (unbeaten ranks key) s r (IsWeak-unbeaten key ranks weak) x
            (tied_stays key ranks s r weak here y tied))
      ],
    )

pub IsAsGood-transitive : (order : List Key) (ranks : List Rank) (a b c : Rank) → IsWeak ranks → IsIn a ranks
    → IsIn b ranks → IsIn c ranks → IsAsGood order a b → IsAsGood order b c → IsAsGood order a c
IsAsGood-transitive [] ranks a b c weak x y z p q = tt
IsAsGood-transitive (key ∷ order) ranks a b c weak x y z p q = (
  false_from_ne_true (is_better key c a)
      (λ better. elim (weak key c b a z y x better) [ inl over ↦ clash over q.0 | inr under ↦ clash under p.0 ]),
  elim p.1 [
    | inl ab ↦ elim (weak key a c b x z y ab) [ inl ac ↦ inl ac | inr cb ↦ absurd (clash cb q.0) ]
    | inr ab ↦ elim q.1 [
      | inl bc ↦ elim (weak key b a c y x z bc) [ inl ba ↦ absurd (clash ba p.0) | inr ac ↦ inl ac ]
      | inr bc ↦ inr (IsAsGood-transitive order ranks a b c weak x y z ab bc)
    ]
  ],
)

-- neither is better by any key
abbrev pub AreTied : List Key → Rank → Rank → Type 0
AreTied [] a b = Unit {0}
AreTied (key ∷ order) a b = ((is_better key a b ≡ false) × (is_better key b a ≡ false)) × AreTied order a b

AreTied-both : (order : List Key) (a b : Rank) → IsAsGood order a b → IsAsGood order b a → AreTied order a b
AreTied-both [] a b p q = tt
AreTied-both (key ∷ order) a b p q = (
  (q.0, p.0),
  elim p.1 [
    | inl ab ↦ absurd (clash ab q.0)
    | inr ab ↦ elim q.1 [ inl ba ↦ absurd (clash ba p.0) | inr ba ↦ AreTied-both order a b ab ba ]
  ],
)

-- so two that are as good as each other have one address
address_of_tied : (a b : Rank) → IsAsGood keys a b → IsAsGood keys b a → a.address ≡ b.address
address_of_tied a b p q =
    let last = (AreTied-both keys a b p q).1.1.1.1.1.1.1.0 in
    omega (arith, ltb-false a.address b.address last.0, ltb-false b.address a.address last.1)

-- the index of a rank in a list
record IsAt (ranks : List Rank) (r : Rank) (i : ℕ) : Type 0 where
  pub within : i < length ranks
  pub rank : (d : Rank) → get_or ranks i d ≡ r

IsIn-index : (ranks : List Rank) (r : Rank) → IsIn r ranks → (i : ℕ) × IsAt ranks r i
IsIn-index [] r h = absurd h
IsIn-index (s ∷ ranks) r h = elim h [
  | inl same ↦ (0, record { within = omega arith; rank = λ d. sym same })
  | inr later ↦
      let rest = IsIn-index ranks r later in
      (suc rest.0, record { within = omega (arith, rest.1.within); rank = rest.1.rank })
]

index-IsIn : (ranks : List Rank) (i : ℕ) (d : Rank) → i < length ranks → IsIn (get_or ranks i d) ranks
index-IsIn [] i d h = absurd (omega arith)
index-IsIn (s ∷ ranks) zero d h = inl refl
index-IsIn (s ∷ ranks) (suc i) d h = inr (index-IsIn ranks i d (omega arith))

-- what holds of each pair holds of two ranks of the list, or they are one
module _ (R : Rank → Rank → Type 0) (turn : (a b : Rank) → R a b → R b a) where
  first_pair : (s b : Rank) (ranks : List Rank) → AllPairs R (s ∷ ranks) → IsIn b ranks → R s b
  first_pair s b ranks all h =
      let at = IsIn-index ranks b h in
      subst (λ (v : Rank). R s v) (at.1.rank s) (all 0 (suc at.0) s (omega arith) (omega (arith, at.1.within)))

  pair_of : (ranks : List Rank) (a b : Rank) → AllPairs R ranks → IsIn a ranks → IsIn b ranks → (a ≡ b) ⊎ R a b
  pair_of [] a b all x y = absurd x
  pair_of (s ∷ ranks) a b all x y =
      elim x [
        | inl a_is ↦ elim y [
          | inl b_is ↦ inl (a_is ∙ sym b_is)
          | inr later ↦ inr (subst (λ (v : Rank). R v b) (sym a_is) (first_pair s b ranks all later))
        ]
        | inr before ↦ elim y [
          | inl b_is ↦ inr (turn b a (subst (λ (v : Rank). R v a) (sym b_is) (first_pair s a ranks all before)))
          | inr later ↦
              let rest : AllPairs R ranks = λ i j d lt within. all (suc i) (suc j) d (omega arith) (omega arith) in
              pair_of ranks a b rest before later
        ]
      ]

first_apart : (r s : Rank) (ranks : List Rank) → AreApart (r ∷ ranks) → IsIn s ranks → r.address ≡ s.address → ⊥
first_apart r s ranks apart later =
    first_pair (λ (a b : Rank). a.address ≡ b.address → ⊥) (λ a b h same. h (sym same)) r s ranks apart later

same_rank : (ranks : List Rank) (a b : Rank) → AreApart ranks → IsIn a ranks → IsIn b ranks → a.address ≡ b.address
    → a ≡ b
same_rank ranks a b apart x y e =
    elim (pair_of (λ (a b : Rank). a.address ≡ b.address → ⊥) (λ a b h same. h (sym same)) ranks a b apart x y) [
      | inl same ↦ same
      | inr other ↦ absurd (other e)
    ]

one_med : (ranks : List Rank) (a b : Rank) → HaveOneMed ranks → IsIn a ranks → IsIn b ranks
    → a.neighbour ≡ b.neighbour → a.med ≡ b.med
one_med ranks a b meds x y e =
    elim (pair_of (λ (a b : Rank). a.neighbour ≡ b.neighbour → a.med ≡ b.med) (λ a b h same. sym (h (sym same))) ranks
    a b meds x y) [
      | inl same ↦ ap (λ (r : Rank). r.med) same
      | inr pair ↦ pair e
    ]

lt-weak : (a b c : ℕ) → nat_lt a c ≡ true → (nat_lt a b ≡ true) ⊎ (nat_lt b c ≡ true)
lt-weak a b c e =
    elim (cases_Bool (nat_lt a b)) [
      | inl under ↦ inl under
      | inr over ↦ inr (lt-ltb b c (omega (arith, ltb-true a c e, ltb-false a b over)))
    ]

swapped : {A B : Type 0} → A ⊎ B → B ⊎ A
swapped (inl a) = inr a
swapped (inr b) = inl b

med-weak : (ranks : List Rank) (a b c : Rank) → HaveOneMed ranks → IsIn a ranks → IsIn c ranks
    → is_better Med a c ≡ true → (is_better Med a b ≡ true) ⊎ (is_better Med b c ≡ true)
med-weak ranks a b c meds x z e =
    let p = and_parts (a.neighbour == c.neighbour) (nat_lt a.med c.med) e in
    let same = one_med ranks a c meds x z (eqb-true a.neighbour c.neighbour p.0) in
    absurd (omega (arith, ltb-true a.med c.med p.1, same))

-- if MEDs agree, each key orders the ranks
pub IsWeak-one_med : (ranks : List Rank) → HaveOneMed ranks → IsWeak ranks
IsWeak-one_med ranks meds Degree a b c x y z e = swapped (lt-weak c.degree b.degree a.degree e)
IsWeak-one_med ranks meds Hops a b c x y z e = lt-weak a.hops b.hops c.hops e
IsWeak-one_med ranks meds Origin a b c x y z e = lt-weak a.origin b.origin c.origin e
IsWeak-one_med ranks meds Med a b c x y z e = med-weak ranks a b c meds x z e
IsWeak-one_med ranks meds Kind a b c x y z e = lt-weak a.kind b.kind c.kind e
IsWeak-one_med ranks meds Cost a b c x y z e = lt-weak a.cost b.cost c.cost e
IsWeak-one_med ranks meds Id a b c x y z e = lt-weak a.id b.id c.id e
IsWeak-one_med ranks meds Address a b c x y z e = lt-weak a.address b.address c.address e

-- how many ranks have an address
abbrev pub times : ℕ → List Rank → ℕ
times address ranks = sum_by (λ (r : Rank). cond (r.address == address) 1 0) ranks

abbrev pub IsOnce : List Rank → Type 0
IsOnce ranks = (address : ℕ) → times address ranks ≤ 1

times-cons : (address : ℕ) (r : Rank) (ranks : List Rank)
    → times address (r ∷ ranks) ≡ cond (r.address == address) 1 0 + times address ranks
times-cons address r ranks = sum_by-cons (λ (r : Rank). cond (r.address == address) 1 0) r ranks

times-none : (address : ℕ) (ranks : List Rank) → ((r : Rank) → IsIn r ranks → r.address ≡ address → ⊥)
    → times address ranks ≡ 0
times-none address [] h = refl
times-none address (r ∷ ranks) h =
    let not_here : (r.address == address) ≡ false =
    false_from_ne_true (r.address == address) (λ e. h r (inl refl) (eqb-true r.address address e)) in
    times-cons address r ranks ∙ ap {B = ℕ} (λ (b : Bool). cond b 1 0 + times address ranks) not_here
    ∙ omega (arith, times-none address ranks (λ s later. h s (inr later)))

pub IsOnce-apart : (ranks : List Rank) → AreApart ranks → IsOnce ranks
IsOnce-apart [] apart address = omega arith
IsOnce-apart (r ∷ ranks) apart address =
    elim (cases_Bool (r.address == address)) [
      | inl here ↦
          let none = times-none address ranks
          (λ s later e. first_apart r s ranks apart later (eqb-true r.address address here ∙ sym e)) in
          omega (arith, times-cons address r ranks, ap {B = ℕ} (λ (b : Bool). cond b 1 0) here, none)
      | inr there ↦
          let after : AreApart ranks = λ i j d lt within. apart (suc i) (suc j) d (omega arith) (omega arith) in
          let rest = IsOnce-apart ranks after address in
          omega (arith, times-cons address r ranks, ap {B = ℕ} (λ (b : Bool). cond b 1 0) there, rest)
    ]

-- the one that is left of two
record IsBetter (a b w : Rank) : Type 0 where
  pub which : (w ≡ a) ⊎ (w ≡ b)
  pub first : IsAsGood keys w a
  pub second : IsAsGood keys w b

pair_apart : (a b : Rank) → (a.address ≡ b.address → ⊥) → AreApart (a ∷ b ∷ [])
pair_apart a b h i zero d lt within = absurd (omega arith)
pair_apart a b h zero (suc zero) d lt within = h
pair_apart a b h (suc i) (suc zero) d lt within = absurd (omega arith)
pair_apart a b h i (suc (suc j)) d lt within = absurd (omega arith)

IsWeak-pair : (ranks : List Rank) (a b : Rank) → IsWeak ranks → IsIn a ranks → IsIn b ranks → IsWeak (a ∷ b ∷ [])
IsWeak-pair ranks a b weak x y key p q r inp inq inr_ =
    let into : (s : Rank) → IsIn s (a ∷ b ∷ []) → IsIn s ranks = λ s h. elim h [
      | inl same ↦ subst (λ (v : Rank). IsIn v ranks) (sym same) x
      | inr later ↦ elim later [ inl same ↦ subst (λ (v : Rank). IsIn v ranks) (sym same) y | inr none ↦ absurd none ]
    ] in
    weak key p q r (into p inp) (into q inq) (into r inr_)

IsBetter-better_of : (ranks : List Rank) (a b : Rank) → IsWeak ranks → IsIn a ranks → IsIn b ranks
    → (a.address ≡ b.address → ⊥) → IsBetter a b (better_of a b)
unfolding survivors
IsBetter-better_of ranks a b weak x y h =
    let best = one_survives (a ∷ b ∷ []) a (inl refl) (pair_apart a b h) in
    let left : IsIn best.0 (survivors (a ∷ b ∷ [])) =
    subst (λ (l : List Rank). IsIn best.0 l) (sym best.2) (inl refl) in
    let small = IsWeak-pair ranks a b weak x y in
    let is : best.0 ≡ better_of a b = ap (first_or a) (sym best.2) in
    subst (λ (w : Rank). IsBetter a b w) is (record {
      which = elim best.1 [ inl e ↦ inl e | inr later ↦ elim later [ inl e ↦ inr e | inr none ↦ absurd none ] ];
      first = IsAsGood-left keys (a ∷ b ∷ []) best.0 a small left (inl refl);
      second = IsAsGood-left keys (a ∷ b ∷ []) best.0 b small left (inr (inl refl));
    })

-- a rank of a list that is at least as good as all
pub record IsBest (ranks : List Rank) (w : Rank) : Type 0 where
  pub there : IsIn w ranks
  pub best : (r : Rank) → IsIn r ranks → IsAsGood keys w r

apart_of_once : (a b : Rank) (ranks : List Rank) → IsOnce (a ∷ b ∷ ranks) → a.address ≡ b.address → ⊥
apart_of_once a b ranks once e =
    let here = eq-eqb a.address a.address refl in
    let next = eq-eqb b.address a.address (sym e) in
    omega (
      arith,
      once a.address,
      times-cons a.address a (b ∷ ranks),
      times-cons a.address b ranks,
      ap {B = ℕ} (λ (b : Bool). cond b 1 0) here,
      ap {B = ℕ} (λ (b : Bool). cond b 1 0) next,
    )

IsOnce-better : (a b w : Rank) (ranks : List Rank) → IsOnce (a ∷ b ∷ ranks) → (w ≡ a) ⊎ (w ≡ b) → IsOnce (w ∷ ranks)
IsOnce-better a b w ranks once (inl e) address =
    omega (
      arith,
      once address,
      times-cons address a (b ∷ ranks),
      times-cons address b ranks,
      times-cons address w ranks,
      ap {B = ℕ} (λ (r : Rank). cond (r.address == address) 1 0) e,
    )
IsOnce-better a b w ranks once (inr e) address =
    omega (
      arith,
      once address,
      times-cons address a (b ∷ ranks),
      times-cons address b ranks,
      times-cons address w ranks,
      ap {B = ℕ} (λ (r : Rank). cond (r.address == address) 1 0) e,
    )

pub IsBest-pairwise : (ranks order : List Rank) (c : Rank) → IsWeak ranks → IsIn c ranks
    → ((r : Rank) → IsIn r order → IsIn r ranks) → IsOnce (c ∷ order) → IsBest (c ∷ order) (pairwise c order)
IsBest-pairwise ranks [] c weak x all once = record {
  there = inl refl;
  best = λ r h. elim h [
    | inl same ↦ subst (λ (v : Rank). IsAsGood keys c v) (sym same) (IsAsGood-itself keys c)
    | inr none ↦ absurd none
  ];
}
IsBest-pairwise ranks (z ∷ order) c weak x all once =
    let y = all z (inl refl) in
    let two = IsBetter-better_of ranks c z weak x y (apart_of_once c z order once) in
    let w = better_of c z in
    let w_in : IsIn w ranks = elim two.which [
      | inl e ↦ subst (λ (v : Rank). IsIn v ranks) (sym e) x
      | inr e ↦ subst (λ (v : Rank). IsIn v ranks) (sym e) y
    ] in
    let rest = IsBest-pairwise ranks order w weak w_in (λ r h. all r (inr h))
    (IsOnce-better c z w order once two.which) in
    let v = pairwise w order in
    let v_in : IsIn v ranks = elim rest.there [
      | inl e ↦ subst (λ (u : Rank). IsIn u ranks) (sym e) w_in
      | inr later ↦ all v (inr later)
    ] in
    let over = rest.best w (inl refl) in
    record {
      there = elim rest.there [
        | inl e ↦ elim two.which [ inl a ↦ inl (e ∙ a) | inr b ↦ inr (inl (e ∙ b)) ]
        | inr later ↦ inr (inr later)
      ];
      best = λ r h. elim h [
        | inl same ↦ subst (λ (u : Rank). IsAsGood keys v u) (sym same)
            (IsAsGood-transitive keys ranks v w c weak v_in w_in x over two.first)
        | inr later ↦ elim later [
          | inl same ↦ subst (λ (u : Rank). IsAsGood keys v u) (sym same)
              (IsAsGood-transitive keys ranks v w z weak v_in w_in y over two.second)
          | inr more ↦ rest.best r (inr more)
        ]
      ];
    }

-- ranks of a list are ranks of a permutation of it
IsIn-permutation : (xs ys : List Rank) (r : Rank) → IsPermutation xs ys → IsIn r ys → IsIn r xs
IsIn-permutation xs ys r p h =
    let all = All-permutation (λ (s : Rank). IsIn s xs) xs ys p (λ k d within. index-IsIn xs k d within) in
    let at = IsIn-index ys r h in
    subst (λ (s : Rank). IsIn s xs) (at.1.rank r) (all at.0 r at.1.within)

pub fold_holds : fold_law
unfolding survivors
fold_holds ranks order first apart meds perm =
    let weak = IsWeak-one_med ranks meds in
    let into : (r : Rank) → IsIn r (first ∷ order) → IsIn r ranks =
    λ r h. IsIn-permutation ranks (first ∷ order) r perm h in
    let once : IsOnce (first ∷ order) = λ address.
    omega (
      arith,
      IsOnce-apart ranks apart address,
      sum_by-IsPermutation (λ (r : Rank). cond (r.address == address) 1 0) ranks (first ∷ order) perm,
    ) in
    let along = IsBest-pairwise ranks order first weak (into first (inl refl)) (λ r h. into r (inr h)) once in
    let w = pairwise first order in
    let one = one_survives ranks first (into first (inl refl)) apart in
    let left : IsIn one.0 (survivors ranks) = subst (λ (l : List Rank). IsIn one.0 l) (sym one.2) (inl refl) in
    let w_in = into w along.there in
    let set_over = IsAsGood-left keys ranks one.0 w weak left w_in in
    let back = IsPermutation-sym ranks (first ∷ order) perm in
    let pair_over = along.best one.0 (IsIn-permutation (first ∷ order) ranks one.0 back one.1) in
    one.2 ∙ ap (λ r. r ∷ []) (same_rank ranks one.0 w apart one.1 w_in (address_of_tied one.0 w set_over pair_over))

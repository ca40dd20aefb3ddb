-- A chain that fails, and the chain of programs in its place that only call `next`, leave the same.
use Rattle.std.proofs.Common.{◌≡◌, refl, sym, ap, ◌∙◌, subst, inl, inr, ℕ, zero, suc, ◌+◌, ◌≤◌, Bool, true, false}
use Rattle.std.proofs.Common.{arith}
use Rattle.std.proofs.Common.{List, [], ◌∷◌, cond, map}
use Rattle.std.proofs.lemmas.Bool.{and_parts, cases_Bool, eq-eqb, eqb-true, leb-true}
use Rattle.std.specs.Prelude.{◌==◌, ◌&&◌, ◌||◌, filter, if◌then◌else◌, not}
use Rattle.std.specs.List.{AllByRecursion, list_any}
use Rattle.xb_words.specs.Table.{with_key}
use Rattle.xb_domain.specs.declared.point.Point.{Point}
use Rattle.xb_domain.specs.declared.point.Point.TheVariants.{Receive, Inbound, Decision, Outbound, Encode}
use Rattle.bpf_mem.specs.Memory.{Memory, fresh}
use Rattle.bpf_machine.specs.declared.world.Cause.{Cause}
use Rattle.bpf_machine.specs.declared.world.Cause.TheVariants as causes
use Rattle.bpf_machine.specs.declared.world.End.{End}
use Rattle.bpf_machine.specs.declared.world.End.TheVariants as ends
use Rattle.bpf_machine.specs.Running.{Ended, bpf, turns}
use Rattle.bpf_machine.specs.Steps.{jump_step, take_step}
use Rattle.xbgp_helpers.specs.Helping.{help}
use Rattle.xbgp_helpers.specs.Worlds.{World}
use Rattle.xbgp_manifest.specs.Manifests.{IsManifest, IsProgram}
use Rattle.xbgp_manifest.specs.declared.entries.ProgramEntry.{ProgramEntry}
use Rattle.xbgp_points.specs.declared.outcome.Outcome.{Outcome}
use Rattle.xbgp_points.specs.declared.outcome.Outcome.TheVariants.{Verdict, Native, Failed}
use Rattle.xbgp_points.specs.Chains.{Chained, Faults, after_program, chain, chain_from, failed, fault_cmp, is_failed}
use Rattle.xbgp_points.specs.Chains.{is_listed, numbered, output_fits, point_number, programs_at, run_program}
use Rattle.xbgp_points.specs.Chains.{same_point, with_fault}
use Rattle.spk_model.specs.declared.host.Setup.{Setup}
use Rattle.spk_model.specs.Laws.{AreFaults, has_point, next_code, program_at, stilled, stilled_program}
use Rattle.spk_model.proofs.FaultsLemmas.{after_faults, chain_from-noted, filter-with_key-fails}
use Rattle.spk_model.proofs.FaultsLemmas.{filter-with_key-passes, noted, with_key-sorted}
use Rattle.spk_model.proofs.HeardLemmas.{AllByRecursion-All, all-filter, all-weaken}

-- ---- lists

all-both : {A : Type 0} (P Q : A → Type 0) (xs : List A) → AllByRecursion P xs → AllByRecursion Q xs
    → AllByRecursion (λ x. P x × Q x) xs
all-both P Q [] first second = tt
all-both P Q (x ∷ xs) first second = ((first.0, second.0), all-both P Q xs first.1 second.1)

all-passes : {A : Type 0} (test : A → Bool) (xs : List A) → AllByRecursion (λ x. test x ≡ true) (filter test xs)
all-passes test [] = tt
all-passes test (x ∷ xs) =
    elim (cases_Bool (test x)) [
      | inl passes ↦ rw passes (passes, all-passes test xs)
      | inr fails ↦ rw fails (all-passes test xs)
    ]

or-right : (a b : Bool) → b ≡ true → (a || b) ≡ true
or-right true b e = refl
or-right false b e = e

-- an element that passes a test is found
found : {A : Type 0} (xs : List A)
    → AllByRecursion (λ x. (test : A → Bool) → test x ≡ true → list_any test xs ≡ true) xs
found [] = tt
found (x ∷ xs) = (
  λ test passes. rw passes refl,
  all-weaken (λ y. (test : _ → Bool) → test y ≡ true → list_any test xs ≡ true)
      (λ y. (test : _ → Bool) → test y ≡ true → list_any test (x ∷ xs) ≡ true)
      (λ y is test passes. or-right (test x) (list_any test xs) (is test passes)) xs (found xs),
)

-- ---- a program that only calls `next`

next_ends : (point : Point) (fuel : ℕ) (memory : Memory) (w : World)
    → bpf (help point) next_code memory (suc fuel) w ≡ record { end = ends.Next; memory = memory; world = w }
unfolding bpf turns take_step jump_step help
next_ends Receive fuel memory w = refl
next_ends Inbound fuel memory w = refl
next_ends Decision fuel memory w = refl
next_ends Outbound fuel memory w = refl
next_ends Encode fuel memory w = refl

-- a program with such code
abbrev silent : ProgramEntry → ProgramEntry
silent p = record p { code = next_code }

-- its run does nothing
abbrev nothing : List ℕ → World → Ended World
nothing window w = record { end = ends.Next; memory = fresh window; world = w }

silent_run : (point : Point) (window : List ℕ) (p : ProgramEntry) (w : World) → 1 ≤ p.fuel
    → record w { mark = 0 } ≡ w → run_program point window (silent p) w ≡ nothing window w
silent_run point window p w some free =
    by_fuel p.fuel some ∙ ap (λ (v : World). nothing window v) free
  where
    by_fuel : (fuel : ℕ) → 1 ≤ fuel
        → (let e = bpf (help point) next_code (fresh window) fuel w in
        let r : Ended World = record e { world = record (e.world) { mark = 0 } } in r)
        ≡ nothing window (record w { mark = 0 })
    by_fuel zero none = absurd (omega (arith, none))
    by_fuel (suc fuel) more =
        ap (λ (e : Ended World). record e { world = record (e.world) { mark = 0 } })
        (next_ends point fuel (fresh window) w)

-- ---- a failed chain

-- the chain fails by one of its programs, and leaves what was before it
pub record FailedBy (P : ℕ → Type 0) (before : World) (faults : Faults) (c : Chained) : Type 0 where
  pub program : ℕ
  pub cause : Cause
  pub of : P program
  pub is : c ≡ failed before faults program cause

module _ (P : ℕ → Type 0) (point : Point) (window : List ℕ) (before : World) (faults : Faults) where
  failed_by_tests : (a b : Bool) (program r : ℕ) (w : World) → P program
      → let x : Chained = record { outcome = Verdict r; world = w; faults = faults } in
      let c = cond a (cond b x (failed before faults program causes.BadOutput))
      (failed before faults program causes.BadReturn) in
      is_failed c.outcome ≡ true → FailedBy P before faults c
  failed_by_tests true true program r w of fails = absurd (cc fails)
  failed_by_tests true false program r w of fails =
      record { program = program; cause = causes.BadOutput; of = of; is = refl }
  failed_by_tests false b program r w of fails =
      record { program = program; cause = causes.BadReturn; of = of; is = refl }

  failed_after : (rest : World → Chained)
      → ((w : World) → is_failed (rest w).outcome ≡ true → FailedBy P before faults (rest w)) → (program : ℕ)
      → P program → (e : End) (w : World) → let c = after_program rest point before faults program e w in
      is_failed c.outcome ≡ true → FailedBy P before faults c
  failed_after rest later program of (ends.Exit r) w fails =
      failed_by_tests (is_listed r) (output_fits point r w) program r w of fails
  failed_after rest later program of ends.Next w fails = later w fails
  failed_after rest later program of (ends.Failed cause) w fails =
      record { program = program; cause = cause; of = of; is = refl }

  failed_chain : (ps : List (ℕ × ProgramEntry)) → AllByRecursion (λ p. P p.0) ps → (w : World)
      → is_failed (chain_from point window before faults ps w).outcome ≡ true
      → FailedBy P before faults (chain_from point window before faults ps w)
  failed_chain [] all w fails = absurd (cc fails)
  failed_chain (p ∷ ps) all w fails =
      let e = run_program point window p.1 w in
      failed_after (chain_from point window before faults ps) (λ v f. failed_chain ps all.1 v f) p.0 all.0 e.end
      e.world fails

-- what the speaker makes of an outcome: a failure counts as no verdict
abbrev pub heart : Outcome → Outcome
heart (Failed program cause) = Native
heart (Verdict v) = Verdict v
heart Native = Native

module _ (points : List Point) (setup : Setup) where
  -- a fault of a program at another point
  abbrev pub is_elsewhere : ℕ × Cause → Bool
  is_elsewhere f = not (program_at points setup.manifest f.0)

  -- two sets of faults that agree on those
  pub record IsGood (first second : Faults) : Type 0 where
    pub first_sorted : AreFaults first
    pub second_sorted : AreFaults second
    pub same : filter is_elsewhere first ≡ filter is_elsewhere second

  good-noted : (o : Outcome) (first second : Faults) → IsGood first second
      → IsGood (noted o first) (noted o second)
  good-noted (Failed program cause) first second g = record {
    first_sorted = with_key-sorted first (program, cause) g.first_sorted;
    second_sorted = with_key-sorted second (program, cause) g.second_sorted;
    same =
        elim (cases_Bool (is_elsewhere (program, cause))) [
          | inl passes ↦
              filter-with_key-passes is_elsewhere first (program, cause) g.first_sorted passes
              ∙ ap (λ (fs : Faults). with_key fault_cmp fs (program, cause)) g.same
              ∙ sym (filter-with_key-passes is_elsewhere second (program, cause) g.second_sorted passes)
          | inr fails ↦
              filter-with_key-fails is_elsewhere first (program, cause) fails
              ∙ g.same ∙ sym (filter-with_key-fails is_elsewhere second (program, cause) fails)
        ];
  }
  good-noted (Verdict v) first second g = g
  good-noted Native first second g = g

  good-failed : (program : ℕ) (cause : Cause) (first second : Faults)
      → program_at points setup.manifest program ≡ true → IsGood first second
      → IsGood (with_fault first program cause) second
  good-failed program cause first second here g = record {
    first_sorted = with_key-sorted first (program, cause) g.first_sorted;
    second_sorted = g.second_sorted;
    same = filter-with_key-fails is_elsewhere first (program, cause) (ap not here) ∙ g.same;
  }

  -- ---- the programs of a point

  abbrev still_one : ℕ × ProgramEntry → ℕ × ProgramEntry
  still_one q = (q.0, stilled_program points q.1)

  stilled_point : (p : ProgramEntry) → (stilled_program points p).point ≡ p.point
  stilled_point p = by_test (has_point points p.point)
    where
      by_test : (b : Bool) → (if b then silent p else p).point ≡ p.point
      by_test true = refl
      by_test false = refl

  numbered-stilled : (n : ℕ) (ps : List ProgramEntry)
      → numbered n (map (stilled_program points) ps) ≡ map still_one (numbered n ps)
  numbered-stilled n [] = refl
  numbered-stilled n (p ∷ ps) =
      ap (λ (qs : List (ℕ × ProgramEntry)). (n, stilled_program points p) ∷ qs) (numbered-stilled (n + 1) ps)

  -- whether a program is at a point
  abbrev is_at : Point → ℕ × ProgramEntry → Bool
  is_at point q = same_point (q.1).point point

  front-stilled : (b : Bool) (q : ℕ × ProgramEntry) (qs rs : List (ℕ × ProgramEntry)) → rs ≡ map still_one qs
      → cond b (still_one q ∷ rs) rs ≡ map still_one (cond b (q ∷ qs) qs)
  front-stilled true q qs rs same = ap (λ (l : List (ℕ × ProgramEntry)). still_one q ∷ l) same
  front-stilled false q qs rs same = same

  filter-stilled : (point : Point) (qs : List (ℕ × ProgramEntry))
      → filter (is_at point) (map still_one qs) ≡ map still_one (filter (is_at point) qs)
  filter-stilled point [] = refl
  filter-stilled point (q ∷ qs) =
      let rest = filter (is_at point) (map still_one qs) in
      ap (λ (r : Point). cond (same_point r point) (still_one q ∷ rest) rest) (stilled_point q.1)
      ∙ front-stilled (is_at point q) q (filter (is_at point) qs) rest (filter-stilled point qs)

  programs-stilled : (point : Point)
      → programs_at (stilled points setup).manifest point ≡ map still_one (programs_at setup.manifest point)
  programs-stilled point =
      ap (λ (qs : List (ℕ × ProgramEntry)). filter (is_at point) qs)
      (numbered-stilled 0 (setup.manifest).programs)
      ∙ filter-stilled point (numbered 0 (setup.manifest).programs)

  -- one point has what another has
  same_where : (p point : Point) → same_point p point ≡ true → has_point points p ≡ has_point points point
  same_where p point same =
      ap (λ (n : ℕ). list_any (λ x. n == point_number x) points)
      (eqb-true (point_number p) (point_number point) same)

  unstilled : (point : Point) → has_point points point ≡ false → (qs : List (ℕ × ProgramEntry))
      → AllByRecursion (λ q. is_at point q ≡ true) qs → map still_one qs ≡ qs
  unstilled point other [] all = refl
  unstilled point other (q ∷ qs) all =
      let no = same_where (q.1).point point all.0 ∙ other in
      ap (λ (b : Bool). (q.0, if b then silent q.1 else q.1) ∷ map still_one qs) no
      ∙ ap (λ (l : List (ℕ × ProgramEntry)). q ∷ l) (unstilled point other qs all.1)

  -- a program at one of the points, with fuel
  abbrev IsHere : ℕ × ProgramEntry → Type 0
  IsHere q = (has_point points (q.1).point ≡ true) × (1 ≤ (q.1).fuel)

  still_chain : (point : Point) (window : List ℕ) (before : World) (faults : Faults)
      (qs : List (ℕ × ProgramEntry)) (w : World) → AllByRecursion IsHere qs → record w { mark = 0 } ≡ w
      → chain_from point window before faults (map still_one qs) w
      ≡ record { outcome = Native; world = w; faults = faults }
  still_chain point window before faults [] w all free = refl
  still_chain point window before faults (q ∷ qs) w all free =
      let step : run_program point window (stilled_program points q.1) w ≡ nothing window w =
      ap (λ (b : Bool). run_program point window (if b then silent q.1 else q.1) w) (all.0).0
      ∙ silent_run point window q.1 w (all.0).1 free in
      ap (λ (e : Ended World).
      after_program (chain_from point window before faults (map still_one qs)) point before faults q.0 e.end e.world)
      step
      ∙ still_chain point window before faults qs w all.1 free

  fuels : (n : ℕ) (ps : List ProgramEntry) → AllByRecursion IsProgram ps
      → AllByRecursion (λ q. 1 ≤ (q.1).fuel) (numbered n ps)
  fuels n [] all = tt
  fuels n (p ∷ ps) all =
      (leb-true 1 p.fuel (and_parts _ _ (all.0).fuel).0, fuels (n + 1) ps all.1)

  -- ---- a chain and the one in its place

  -- both leave the same but faults of the programs at the points
  pub record AreStilled (c d : Chained) : Type 0 where
    pub outcome : heart c.outcome ≡ heart d.outcome
    pub world : c.world ≡ d.world
    pub good : IsGood c.faults d.faults

  module _ (accepted : IsManifest setup.manifest) (point : Point) (window : List ℕ) (w : World)
      (first second : Faults) (good : IsGood first second) where
    -- no program of the point is replaced
    other_stilled : has_point points point ≡ false
        → AreStilled (chain setup.manifest point window w first)
        (chain (stilled points setup).manifest point window w second)
    unfolding chain
    other_stilled other =
        let qs = programs_at setup.manifest point in
        let base = chain_from point window w [] qs w in
        let same : programs_at (stilled points setup).manifest point ≡ qs =
        programs-stilled point
        ∙ unstilled point other qs (all-passes (is_at point) (numbered 0 (setup.manifest).programs)) in
        let c = chain_from-noted point w first window qs w in
        let d = ap (λ (ps : List (ℕ × ProgramEntry)). chain_from point window w second ps w) same
        ∙ chain_from-noted point w second window qs w in
        let both : AreStilled (after_faults first base) (after_faults second base) =
        record { outcome = refl; world = refl; good = good-noted base.outcome first second good } in
        subst (λ (x : Chained). AreStilled x (chain_from point window w second
        (programs_at (stilled points setup).manifest point) w)) (sym c)
        (subst (λ (y : Chained). AreStilled (after_faults first base) y) (sym d) both)

    -- the chain fails
    here_stilled : has_point points point ≡ true → record w { mark = 0 } ≡ w
        → is_failed (chain setup.manifest point window w first).outcome ≡ true
        → AreStilled (chain setup.manifest point window w first)
        (chain (stilled points setup).manifest point window w second)
    unfolding chain
    here_stilled here free fails =
        let all = numbered 0 (setup.manifest).programs in
        let qs = programs_at setup.manifest point in
        let test : ℕ → ℕ × ProgramEntry → Bool = λ n p. p.0 == n && has_point points (p.1).point in
        let places : AllByRecursion (λ q. has_point points (q.1).point ≡ true) qs =
        all-weaken (λ q. is_at point q ≡ true) (λ q. has_point points (q.1).point ≡ true)
        (λ q is. same_where (q.1).point point is ∙ here) qs (all-passes (is_at point) all) in
        let programs = AllByRecursion-All IsProgram (setup.manifest).programs accepted.programs in
        let some : AllByRecursion (λ q. 1 ≤ (q.1).fuel) qs =
        all-filter (λ q. 1 ≤ (q.1).fuel) (is_at point) all (fuels 0 (setup.manifest).programs programs) in
        let there = all-filter (λ q. (t : ℕ × ProgramEntry → Bool) → t q ≡ true → list_any t all ≡ true)
        (is_at point) all (found all) in
        let numbers : AllByRecursion (λ q. program_at points setup.manifest q.0 ≡ true) qs =
        all-weaken _ (λ q. program_at points setup.manifest q.0 ≡ true)
        (λ q both. both.1 (test q.0) (rw (eq-eqb q.0 q.0 refl, both.0) refl)) qs (all-both _ _ qs places there) in
        let fails_by = failed_chain (λ n. program_at points setup.manifest n ≡ true) point window w first qs numbers w
        fails in
        let d = ap (λ (ps : List (ℕ × ProgramEntry)). chain_from point window w second ps w) (programs-stilled point)
        ∙ still_chain point window w second qs w (all-both _ _ qs places some) free in
        let none : Chained = record { outcome = Native; world = w; faults = second } in
        let both : AreStilled (failed w first fails_by.program fails_by.cause) none =
        record {
          outcome = refl;
          world = refl;
          good = good-failed fails_by.program fails_by.cause first second fails_by.of good;
        } in
        subst (λ (x : Chained). AreStilled x (chain_from point window w second
        (programs_at (stilled points setup).manifest point) w)) (sym fails_by.is)
        (subst (λ (y : Chained). AreStilled (failed w first fails_by.program fails_by.cause) y) (sym d) both)

    -- a chain that fails if its point is one of them
    pub chain_stilled : record w { mark = 0 } ≡ w
        → (has_point points point ≡ true → is_failed (chain setup.manifest point window w first).outcome ≡ true)
        → AreStilled (chain setup.manifest point window w first)
        (chain (stilled points setup).manifest point window w second)
    chain_stilled free fails =
        elim (cases_Bool (has_point points point)) [
          | inl here ↦ here_stilled here free (fails here)
          | inr other ↦ other_stilled other
        ]

-- What a chain leaves after a failure, and the programs that it is made of.
use Rattle.std.proofs.Common.{◌≡◌, ◌∙◌, refl, sym, ap, subst, ℕ, ◌+◌, ◌<◌, suc, Bool, true, false, List, [], ◌∷◌, cond}
use Rattle.std.proofs.Common.{inl, inr, filter, map, drop, length, Option, Some, None, arith, zero}
use Rattle.std.specs.Prelude.{not, ◌&&◌, nat_lt}
use Rattle.std.specs.List.{slice_get, AllByRecursion}
use Rattle.std.specs.Option.{unwrap_or}
use Rattle.std.proofs.lemmas.Bool.{cases_Bool}
use Rattle.std.proofs.lemmas.Bool.{eqb-true}
use Rattle.std.proofs.lemmas.Option.{slice_get_within, get_or_from_slice_get}
use Rattle.xb_domain.specs.declared.point.Point.{Point}
use Rattle.xb_domain.specs.declared.point.Point.TheVariants.{Receive, Inbound, Decision, Outbound, Encode}
use Rattle.xb_domain.specs.Points.{helper_allowed}
use Rattle.bgp_attr.specs.Routes.{Route}
use Rattle.bpf_machine.specs.declared.world.End.{End}
use Rattle.bpf_machine.specs.declared.world.End.TheVariants as ends
use Rattle.bpf_insn.specs.Sound.{CallsOnly}
use Rattle.xbgp_helpers.specs.Worlds.{World}
use Rattle.xbgp_manifest.specs.Manifests.{Manifest, IsManifest, IsProgram}
use Rattle.xbgp_manifest.specs.declared.entries.ProgramEntry.{ProgramEntry}
use Rattle.xbgp_maps.specs.Mappings.{Mapping, Journalled, closed, opened}
use Rattle.xbgp_view.specs.Views.{Edited}
use Rattle.xbgp_points.specs.declared.outcome.Outcome.{Outcome}
use Rattle.xbgp_points.specs.Chains.{Faults, Chained, after_program, chain_from, failed, is_failed}
use Rattle.xbgp_points.specs.Chains.{is_listed, output_fits, run_program, numbered, point_number, same_point}
use Rattle.xbgp_points.specs.Chains.{programs_at}
use Rattle.xbgp_points.specs.Orders.{numbers_from, picked, IsRunnable, AreRunnable, Leaves, Parts, Ran}
use Rattle.xbgp_points.specs.declared.work.Work.{Work}

-- a chain in which a program failed leaves the world before it
abbrev FailsBack : World → Chained → Type 0
FailsBack before c = is_failed c.outcome ≡ true → c.world ≡ before

by_tests : (before : World) (a b : Bool) (x y z : Chained) → FailsBack before x → FailsBack before y
    → FailsBack before z → FailsBack before (cond a (cond b x y) z)
by_tests before true true x y z px py pz = px
by_tests before true false x y z px py pz = py
by_tests before false b x y z px py pz = pz

module _ (point : Point) (window : List ℕ) (before : World) (noted : Faults) where
  after-back : (rest : World → Chained) (program : ℕ) (e : End) (w : World) → ((v : World) → FailsBack before (rest v))
      → FailsBack before (after_program rest point before noted program e w)
  after-back rest program (ends.Exit r) w later =
      by_tests before (is_listed r) (output_fits point r w) _ _ _ (λ e. absurd (cc e)) (λ e. refl) (λ e. refl)
  after-back rest program ends.Next w later = later w
  after-back rest program (ends.Failed cause) w later = λ e. refl

  pub chain-back : (ps : List (ℕ × ProgramEntry)) (w : World)
      → FailsBack before (chain_from point window before noted ps w)
  chain-back [] w = λ e. absurd (cc e)
  chain-back (p ∷ ps) w =
      let ended = run_program point window p.1 w in
      after-back (chain_from point window before noted ps) p.0 ended.end ended.world (chain-back ps)

-- the programs of numbers that some programs with their numbers have
picked-numbers : (programs : List ProgramEntry) (ps : List (ℕ × ProgramEntry))
    → AllByRecursion (λ q. slice_get programs q.0 ≡ Some q.1) ps → picked programs (map (λ q. q.0) ps) ≡ ps
picked-numbers programs [] h = refl
picked-numbers programs (p ∷ ps) h =
    ap (λ (o : Option ProgramEntry). elim o [
      | None ↦ picked programs (map (λ (q : ℕ × ProgramEntry). q.0) ps)
      | Some x ↦ (p.0, x) ∷ picked programs (map (λ (q : ℕ × ProgramEntry). q.0) ps)
    ]) h.0
    ∙ ap (λ r. p ∷ r) (picked-numbers programs ps h.1)

-- what is at the front of the rest
at-drop : {X : Type 0} (xs : List X) (n : ℕ) (x : X) (rest : List X) → drop n xs ≡ x ∷ rest
    → (slice_get xs n ≡ Some x) × (drop (n + 1) xs ≡ rest)
at-drop [] zero x rest e = absurd (cc e)
at-drop [] (suc n) x rest e = absurd (cc e)
at-drop (y ∷ ys) zero x rest e = (cc e, cc e)
at-drop (y ∷ ys) (suc n) x rest e =
    let same : suc n + 1 ≡ suc (n + 1) = omega arith in
    let later = at-drop ys n x rest e in
    (later.0, ap (λ (k : ℕ). drop k (y ∷ ys)) same ∙ later.1)

-- programs are at their numbers
abbrev IsAt : List ProgramEntry → ℕ × ProgramEntry → Type 0
IsAt programs q = slice_get programs q.0 ≡ Some q.1

numbered-at : (programs : List ProgramEntry) (n : ℕ) (ps : List ProgramEntry) → drop n programs ≡ ps
    → AllByRecursion (IsAt programs) (numbered n ps)
numbered-at programs n [] h = tt
numbered-at programs n (p ∷ ps) h =
    let here = at-drop programs n p ps h in (here.0, numbered-at programs (n + 1) ps here.1)

All-filter : {X : Type 0} (P Q : X → Type 0) (f : X → Bool) (xs : List X) → ((x : X) → P x → f x ≡ true → Q x)
    → AllByRecursion P xs → AllByRecursion Q (filter f xs)
All-filter P Q f [] to h = tt
All-filter P Q f (x ∷ xs) to h =
    elim (f x) as (λ b. f x ≡ b → AllByRecursion Q (cond b (x ∷ filter f xs) (filter f xs))) [
      | true ↦ λ e. (to x h.0 e, All-filter P Q f xs to h.1)
      | false ↦ λ e. All-filter P Q f xs to h.1
    ] refl

All-map : {X Y : Type 0} (Q : Y → Type 0) (f : X → Y) (xs : List X) → AllByRecursion (λ x. Q (f x)) xs
    → AllByRecursion Q (map f xs)
All-map Q f [] h = tt
All-map Q f (x ∷ xs) h = (h.0, All-map Q f xs h.1)

-- the programs of their numbers are they
pub picked-programs_at : (m : Manifest) (point : Point)
    → picked m.programs (numbers_from point 0 m.programs) ≡ programs_at m point
picked-programs_at m point =
    picked-numbers m.programs (programs_at m point)
    (All-filter (IsAt m.programs) (IsAt m.programs) (λ p. same_point (p.1).point point) (numbered 0 m.programs)
    (λ x at e. at) (numbered-at m.programs 0 m.programs refl))

-- a point of a number
point_of : ℕ → Point
point_of zero = Receive
point_of (suc zero) = Inbound
point_of (suc (suc zero)) = Decision
point_of (suc (suc (suc zero))) = Outbound
point_of (suc (suc (suc (suc n)))) = Encode

point_of-number : (p : Point) → point_of (point_number p) ≡ p
unfolding point_of
point_of-number Receive = refl
point_of-number Inbound = refl
point_of-number Decision = refl
point_of-number Outbound = refl
point_of-number Encode = refl

same-point : (p q : Point) → same_point p q ≡ true → p ≡ q
same-point p q e =
    sym (point_of-number p) ∙ ap point_of (eqb-true (point_number p) (point_number q) e) ∙ point_of-number q

-- the programs of a point may run there
pub runnable-numbers : (m : Manifest) (point : Point) → IsManifest m
    → AreRunnable point m.programs (numbers_from point 0 m.programs)
runnable-numbers m point is =
    All-map (IsRunnable point m.programs) (λ (q : ℕ × ProgramEntry). q.0) (programs_at m point)
    (All-filter (IsAt m.programs) (λ (q : ℕ × ProgramEntry). IsRunnable point m.programs q.0)
    (λ p. same_point (p.1).point point) (numbered 0 m.programs)
    (λ q at e.
    let within : q.0 < length m.programs = slice_get_within m.programs q.0 q.1 at in
    let program : IsProgram q.1 =
    subst IsProgram (get_or_from_slice_get m.programs q.0 q.1 q.1 at) (is.programs q.0 q.1 within) in
    let calls : CallsOnly (helper_allowed point) (q.1).code =
    subst (λ (p : Point). CallsOnly (helper_allowed p) (q.1).code) (same-point (q.1).point point e)
    program.calls in
    record {
      few = omega (arith, within, is.few_programs);
      within = within;
      calls = rw at calls;
    })
    (numbered-at m.programs 0 m.programs refl))

-- what a chain leaves, once all is taken back if a program failed
module _ (c : Chained) (before : World) (left : Parts) (given : Outcome) (noted : Faults) (back : FailsBack before c)
    (leaves : Leaves c given noted left) (edited : Route) (w : Work)
    (route_is : edited ≡ cond (is_failed given) before.route left.route)
    (maps_are : w.maps ≡ closed (cond (is_failed given) before.maps left.maps)) (faults_are : w.faults ≡ noted)
    (wrote_is : w.wrote ≡ (not (is_failed given) && nat_lt 0 left.writes)) where
  ran-failed : is_failed given ≡ true → Ran c given edited w
  ran-failed failed =
      let same : is_failed c.outcome ≡ true = ap is_failed (sym leaves.outcome) ∙ failed in
      let world = back same in
      record {
        outcome = leaves.outcome;
        route = route_is ∙ ap (λ b. cond b before.route left.route) failed ∙ ap (λ (v : World). v.route) (sym world);
        maps =
            maps_are ∙ ap (λ b. closed (cond b before.maps left.maps)) failed
            ∙ ap (λ (v : World). closed v.maps) (sym world);
        faults = faults_are ∙ leaves.faults;
        wrote =
            wrote_is ∙ ap (λ b. not b && nat_lt 0 left.writes) failed
            ∙ sym (ap (λ b. not b && nat_lt 0 (c.world).writes) same);
      }

  ran-kept : is_failed given ≡ false → Ran c given edited w
  ran-kept kept =
      let parts = leaves.parts kept in
      record {
        outcome = leaves.outcome;
        route = route_is ∙ ap (λ b. cond b before.route left.route) kept ∙ ap (λ (v : Parts). v.route) parts;
        maps =
            maps_are ∙ ap (λ b. closed (cond b before.maps left.maps)) kept ∙ ap (λ (v : Parts). closed v.maps) parts;
        faults = faults_are ∙ leaves.faults;
        wrote =
            wrote_is ∙ ap (λ (o : Outcome). not (is_failed o) && nat_lt 0 left.writes) leaves.outcome
            ∙ ap (λ (v : Parts). not (is_failed c.outcome) && nat_lt 0 v.writes) parts;
      }

  pub ran : Ran c given edited w
  ran = elim (cases_Bool (is_failed given)) [ inl failed ↦ ran-failed failed | inr kept ↦ ran-kept kept ]

-- the same of a chain that may edit a route, of which a copy is kept
module _ (before : World) (left : Parts) (given : Outcome) (r0 r1 r2 r3 : Edited)
    (kept_is : r1 ≡ record { route = r0.route; kept = r0.route }) (still_kept : r2.kept ≡ r1.kept)
    (back_is : r3 ≡ record r2 { route = cond (is_failed given) r2.kept r2.route })
    (before_route : before.route ≡ r1.route) (left_route : left.route ≡ r2.route) where
  pub route-after : r3.route ≡ cond (is_failed given) before.route left.route
  route-after =
      ap (λ (r : Edited). r.route) back_is
      ∙ ap (λ (r : Route). cond (is_failed given) r r2.route)
      (still_kept ∙ ap (λ (r : Edited). r.kept) kept_is ∙ sym (before_route ∙ ap (λ (r : Edited). r.route) kept_is))
      ∙ ap (λ (r : Route). cond (is_failed given) before.route r) (sym left_route)

-- and of one that may write to maps
module _ (before : World) (left : Parts) (given : Outcome) (m0 m1 m2 m3 : Journalled) (opened_is : m1 ≡ opened m0.maps)
    (still_open : m2.began ≡ m1.began)
    (closed_is : m3 ≡ closed (cond (is_failed given) (unwrap_or m2.began []) m2.maps))
    (before_maps : before.maps ≡ m1.maps) (left_maps : left.maps ≡ m2.maps) where
  pub maps-after : m3 ≡ closed (cond (is_failed given) before.maps left.maps)
  maps-after =
      closed_is
      ∙ ap (λ (m : List Mapping). closed (cond (is_failed given) m m2.maps))
      (ap (λ (o : Option (List Mapping)). unwrap_or o []) (still_open ∙ ap (λ (m : Journalled). m.began) opened_is)
      ∙ sym (before_maps ∙ ap (λ (m : Journalled). m.maps) opened_is))
      ∙ ap (λ (m : List Mapping). closed (cond (is_failed given) before.maps m)) (sym left_maps)

-- what no program changes, and no write to a map
pub either-same : {X : Type 0} (b : Bool) (x : X) → cond b x x ≡ x
either-same true x = refl
either-same false x = refl

pub wrote-none : (b : Bool) → (not b && nat_lt 0 0) ≡ false
wrote-none true = refl
wrote-none false = refl

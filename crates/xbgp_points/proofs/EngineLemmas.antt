-- What an engine gives of a chain that ran.
use Rattle.std.proofs.Common.{◌≡◌, ◌∙◌, refl, sym, ap, subst, ℕ, Bool, true, false, List, [], ◌∷◌, cond}
use Rattle.std.specs.Prelude.{not, ◌&&◌, nat_lt}
use Rattle.xb_domain.specs.declared.point.Point.{Point}
use Rattle.bgp_attr.specs.Routes.{Route}
use Rattle.xbgp_helpers.specs.Worlds.{World}
use Rattle.xbgp_manifest.specs.Manifests.{Manifest, IsManifest}
use Rattle.xbgp_manifest.specs.declared.entries.ProgramEntry.{ProgramEntry}
use Rattle.xbgp_maps.specs.Mappings.{Journalled, Mapping, closed, shapes_of}
use Rattle.xbgp_points.specs.declared.outcome.Outcome.{Outcome}
use Rattle.xbgp_points.specs.declared.work.Work.{Work}
use Rattle.xbgp_points.specs.declared.outcome.Outcome.TheVariants.{Verdict, Native, Failed}
use Rattle.bpf_machine.specs.declared.world.End.{End}
use Rattle.bpf_machine.specs.declared.world.End.TheVariants as ends
use Rattle.xbgp_points.specs.Chains.{Faults, Chained, after_program, chain, chain_from, is_failed, is_listed}
use Rattle.xbgp_points.specs.Chains.{output_fits, programs_at, run_program, with_fault}
use Rattle.xbgp_points.specs.Engines.{Answers, IsUndone, Kept}
use Rattle.xbgp_points.specs.Orders.{AreRunnable, Ran, numbers_from, picked}
use Rattle.xbgp_points.specs.Points.{called}
use Rattle.xbgp_points.proofs.ChainLemmas.{picked-programs_at, runnable-numbers}
use Rattle.xbgp_points.proofs.MapLemmas.{chain-shapes}

-- the numbers that an engine keeps for a point are those of programs that may run there
pub runnable : (m : Manifest) (point : Point) (numbers : List ℕ) → IsManifest m
    → numbers ≡ numbers_from point 0 m.programs → AreRunnable point m.programs numbers
runnable m point numbers is e = subst (AreRunnable point m.programs) (sym e) (runnable-numbers m point is)

-- a chain of these numbers is the chain of the point
pub chain-numbers : (m : Manifest) (point : Point) (window : List ℕ) (w : World) (noted : Faults) (numbers : List ℕ)
    → numbers ≡ numbers_from point 0 m.programs
    → chain_from point window w noted (picked m.programs numbers) w ≡ chain m point window w noted
unfolding chain
chain-numbers m point window w noted numbers e =
    ap (λ (ns : List ℕ). chain_from point window w noted (picked m.programs ns) w) e
    ∙ ap (λ ps. chain_from point window w noted ps w) (picked-programs_at m point)

-- the maps of an engine have no open run, and their shapes, after a chain
module _ (point : Point) (window : List ℕ) (w : World) (noted : Faults) (programs : List (ℕ × ProgramEntry))
    (given : Outcome) (edited : Route) (work : Work)
    (ran : Ran (chain_from point window w noted programs w) given edited work) where
  pub still-closed : work.maps ≡ closed (work.maps).maps
  still-closed = ran.maps ∙ sym (ap (λ (m : Journalled). closed m.maps) ran.maps)

  pub still-shapes : shapes_of (work.maps).maps ≡ shapes_of w.maps
  still-shapes = ap (λ (m : Journalled). shapes_of m.maps) ran.maps ∙ chain-shapes point window noted programs w

-- what the engine gives
module _ (c d : Chained) (old new : Kept) (given : Outcome) (edited : Route) (work : Work)
    (ran : Ran c given edited work)
    (same : c ≡ d)
    (new_is : new ≡ record old {
      engine = record { maps = (work.maps).maps; faults = work.faults };
      wrote = work.wrote;
    }) where
  answers-first : Answers (called c) old new given edited
  answers-first = record {
    outcome = ran.outcome;
    route = ran.route;
    after =
        new_is
        ∙ ap (λ (m : Journalled). let k : Kept = record old {
          engine = record { maps = m.maps; faults = work.faults };
          wrote = work.wrote;
        } in k) ran.maps
        ∙ ap (λ (f : Faults). let k : Kept = record old {
          engine = record { maps = (c.world).maps; faults = f };
          wrote = work.wrote;
        } in k) ran.faults
        ∙ ap (λ (b : Bool). let k : Kept = record old {
          engine = record { maps = (c.world).maps; faults = c.faults };
          wrote = b;
        } in k) ran.wrote;
  }

  pub answers : Answers (called d) old new given edited
  answers = subst (λ (x : Chained). Answers (called x) old new given edited) same answers-first

-- a chain in which a program failed leaves the world before it, and notes the fault
abbrev pub IsBack : World → Faults → Outcome → World → Faults → Type 0
IsBack before noted (Verdict v) world faults = Unit {0}
IsBack before noted Native world faults = Unit {0}
IsBack before noted (Failed program cause) world faults =
    (world ≡ before) × (faults ≡ with_fault noted program cause)

abbrev ChainBack : World → Faults → Chained → Type 0
ChainBack before noted c = IsBack before noted c.outcome c.world c.faults

back-exit : (before : World) (noted : Faults) (a b : Bool) (x y z : Chained) → ChainBack before noted x
    → ChainBack before noted y → ChainBack before noted z → ChainBack before noted (cond a (cond b x y) z)
back-exit before noted true true x y z px py pz = px
back-exit before noted true false x y z px py pz = py
back-exit before noted false b x y z px py pz = pz

module _ (point : Point) (window : List ℕ) (before : World) (noted : Faults) where
  back-after : (rest : World → Chained) (program : ℕ) (e : End) (w : World)
      → ((v : World) → ChainBack before noted (rest v))
      → ChainBack before noted (after_program rest point before noted program e w)
  back-after rest program (ends.Exit r) w later =
      back-exit before noted (is_listed r) (output_fits point r w) _ _ _ tt (refl, refl) (refl, refl)
  back-after rest program ends.Next w later = later w
  back-after rest program (ends.Failed cause) w later = (refl, refl)

  back-from : (ps : List (ℕ × ProgramEntry)) (w : World)
      → ChainBack before noted (chain_from point window before noted ps w)
  back-from [] w = tt
  back-from (p ∷ ps) w =
      let ended = run_program point window p.1 w in
      back-after (chain_from point window before noted ps) p.0 ended.end ended.world (back-from ps)

-- the chain of a point
pub back-chain : (m : Manifest) (point : Point) (window : List ℕ) (w : World) (noted : Faults)
    → ChainBack w noted (chain m point window w noted)
unfolding chain
back-chain m point window w noted = back-from point window w noted (programs_at m point) w

-- a call in which a program failed
undone-by : (o given : Outcome) (c : Chained) (before : World) (old new : Kept) (edited : Route) → given ≡ o
    → o ≡ c.outcome → IsBack before (old.engine).faults o c.world c.faults → before.maps ≡ (old.engine).maps
    → Answers (called c) old new given edited → IsUndone o old new before.route edited
undone-by (Verdict v) given c before old new edited is same back maps given_is = tt
undone-by Native given c before old new edited is same back maps given_is = tt
undone-by (Failed program cause) given c before old new edited is same back maps given_is = (
  given_is.after
      ∙ ap (λ (v : World). let k : Kept = record old {
        engine = record { maps = v.maps; faults = c.faults };
        wrote = not (is_failed c.outcome) && nat_lt 0 (c.world).writes;
      } in k) back.0
      ∙ ap (λ (m : List Mapping). let k : Kept = record old {
        engine = record { maps = m; faults = c.faults };
        wrote = not (is_failed c.outcome) && nat_lt 0 (c.world).writes;
      } in k) maps
      ∙ ap (λ (f : Faults). let k : Kept = record old {
        engine = record (old.engine) { faults = f };
        wrote = not (is_failed c.outcome) && nat_lt 0 (c.world).writes;
      } in k) back.1
      ∙ ap (λ (x : Outcome). let k : Kept = record old {
        engine = record (old.engine) { faults = with_fault (old.engine).faults program cause };
        wrote = not (is_failed x) && nat_lt 0 (c.world).writes;
      } in k) (sym same),
  given_is.route ∙ ap (λ (v : World). v.route) back.0,
)

pub undone : (m : Manifest) (point : Point) (window : List ℕ) (w : World) (old new : Kept) (given : Outcome)
    (edited : Route) → w.maps ≡ (old.engine).maps
    → Answers (called (chain m point window w (old.engine).faults)) old new given edited
    → IsUndone given old new w.route edited
undone m point window w old new given edited maps given_is =
    let c = chain m point window w (old.engine).faults in
    let back =
    subst (λ (o : Outcome). IsBack w (old.engine).faults o c.world c.faults) (sym given_is.outcome)
    (back-chain m point window w (old.engine).faults) in
    undone-by given given c w old new edited refl given_is.outcome back maps given_is

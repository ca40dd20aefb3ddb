-- Text on its way to a sink, gathered on a page (this project's own). A sink is known by its two meanings, what it took
-- and how often it failed, and by its states before and after.
use Rattle.std.specs.Prelude.{◌≡◌, ℕ, ◌≤◌, List, [], ◌++◌, Option, Result, Ok, Err}
use Rattle.xb_io.specs.Causes.{FaultsRose, TookFront, with_text}
use Rattle.xb_io.specs.declared.page.Halt.{Halt}
use Rattle.xb_io.specs.declared.page.Halt.TheVariants.{WriteFault}

-- what the sink took since, what is on the page and what is still to come make the whole; the sink did not fail
pub record Gathered
    {K : Type 0} (took : K → Option (List ℕ)) (faults : K → ℕ) (old new : K) (whole page rest : List ℕ) : Type 0 where
  pub taken : List ℕ
  pub took_taken : took new ≡ with_text (took old) taken
  pub joins : taken ++ (page ++ rest) ≡ whole
  pub quiet : faults new ≡ faults old

-- the writing of the whole ended early, with a front of it taken
pub record Stops
    {K : Type 0} (took : K → Option (List ℕ)) (faults : K → ℕ) (old new : K) (whole : List ℕ) (halt : Halt)
    : Type 0 where
  pub front : TookFront (took old) (took new) whole
  pub fault : halt ≡ WriteFault → FaultsRose (faults old) (faults new)
  pub later : faults old ≤ faults new

-- a text was gathered after what was on the page, which now has the octets `next`, or that ended early
abbrev pub Gathers : {K : Type 0} → (K → Option (List ℕ)) → (K → ℕ) → K → K → List ℕ → List ℕ → List ℕ
    → Result (Unit {0}) Halt → Type 0
Gathers took faults old new page next text (Ok done) = Gathered took faults old new (page ++ text) next []
Gathers took faults old new page next text (Err halt) = Stops took faults old new (page ++ text) halt

-- a text was written, all of it, or that ended early
abbrev pub Puts : {K : Type 0} → (K → Option (List ℕ)) → (K → ℕ) → K → K → List ℕ → Result (Unit {0}) Halt → Type 0
Puts took faults old new text (Ok done) = (took new ≡ with_text (took old) text) × (faults new ≡ faults old)
Puts took faults old new text (Err halt) = Stops took faults old new text halt

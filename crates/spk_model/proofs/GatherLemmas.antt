-- Lines that are gathered one after another.
use Rattle.std.proofs.Common.{◌≡◌, ℕ, List, [], ◌++◌, length, take, Option, Result, Ok, Err, refl, sym, ◌∙◌, ap, subst}
use Rattle.std.proofs.Common.{arith}
use Rattle.std.specs.Result.{IsErrAnd}
use Rattle.std.proofs.lemmas.List.{append-nil, take_at}
use Rattle.xb_io.specs.Causes.{TookFront, with_text}
use Rattle.xb_io.specs.Pages.{Gathered, Gathers, Stops}
use Rattle.xb_io.specs.declared.page.Halt.{Halt}
use Rattle.xb_io.specs.declared.page.Halt.TheVariants.{OutOfMemory}
use Rattle.xb_io.proofs.PageLemmas.{gathered_begin, gathered_then, gathers_stopped, stops_then}

module _ {K : Type 0} (took : K → Option (List ℕ)) (faults : K → ℕ) where
  -- what was gathered so far is a front of the whole
  pub front_gathered : (old new : K) (whole page rest : List ℕ) → Gathered took faults old new whole page rest
      → TookFront (took old) (took new) whole
  front_gathered old new whole page rest g =
      let front : g.taken ≡ take (length g.taken) whole =
      sym (ap (λ l. take (length g.taken) l) (sym g.joins) ∙ take_at g.taken (page ++ rest) (length g.taken) refl) in
      (length g.taken, g.took_taken ∙ ap (with_text (took old)) front)

  -- there was no memory for what comes next
  pub stops_memory : (old new : K) (whole page rest : List ℕ) → Gathered took faults old new whole page rest
      → Stops took faults old new whole OutOfMemory
  stops_memory old new whole page rest g =
      record {
        front = front_gathered old new whole page rest g;
        fault = λ e. absurd (cc e);
        later = omega (arith, g.quiet);
      }

  -- a line was written and gathered
  pub line_gathered : (old new : K) (page next shown line : List ℕ) (result : Result (Unit {0}) Halt) → shown ≡ line
      → Gathers took faults old new page next shown result → Gathers took faults old new page next line result
  line_gathered old new page next shown line result same g =
      subst (λ l. Gathers took faults old new page next l result) same g

  -- there was no memory for a line
  pub line_lost : (old : K) (page next line : List ℕ) (result : Result (Unit {0}) Halt)
      → IsErrAnd result (λ h. h ≡ OutOfMemory) → Gathers took faults old old page next line result
  line_lost old page next line result lost =
      gathers_stopped took faults old old page next line OutOfMemory result lost
      (stops_memory old old (page ++ line) page line (gathered_begin took faults old page line))

  -- the next line of what is to come was gathered
  pub gathered_line : (old mid new : K) (whole page next line lines rest : List ℕ) → lines ≡ line ++ rest
      → Gathered took faults old mid whole page lines → Gathered took faults mid new (page ++ line) next []
      → Gathered took faults old new whole next rest
  gathered_line old mid new whole page next line lines rest is g h =
      gathered_then took faults old mid new whole page next line rest
      (subst (λ l. Gathered took faults old mid whole page l) is g) h

  -- the gathering of the next line ended early, and with it the call that hands the error on by `?`
  pub gathers_no_line : (old mid new : K) (page0 all page next line lines rest : List ℕ) (halt : Halt)
      (result : Result (Unit {0}) Halt) → lines ≡ line ++ rest
      → IsErrAnd result (λ h. h ≡ halt) → Gathered took faults old mid (page0 ++ all) page lines
      → Stops took faults mid new (page ++ line) halt
      → Gathers took faults old new page0 next all result
  gathers_no_line old mid new page0 all page next line lines rest halt result is same g s =
      gathers_stopped took faults old new page0 next all halt result same
      (stops_then took faults old mid new (page0 ++ all) page line rest halt
      (subst (λ l. Gathered took faults old mid (page0 ++ all) page l) is g) s)

  -- all that was to come was gathered, and what follows is nothing
  pub gathered_all : (old new : K) (whole page lines : List ℕ) → lines ≡ []
      → Gathered took faults old new whole page lines → Gathered took faults old new whole page []
  gathered_all old new whole page lines none g = subst (λ l. Gathered took faults old new whole page l) none g

  -- the last text of what is to come is gathered, or that ends early
  pub gathers_last : (old mid new : K) (page0 all page next text : List ℕ) (result : Result (Unit {0}) Halt)
      → Gathered took faults old mid (page0 ++ all) page text → Gathers took faults mid new page next text result
      → Gathers took faults old new page0 next all result
  gathers_last old mid new page0 all page next text (Ok done) g h =
      gathered_line old mid new (page0 ++ all) page next text text [] (sym (append-nil text)) g h
  gathers_last old mid new page0 all page next text (Err halt) g s =
      stops_then took faults old mid new (page0 ++ all) page text [] halt
      (subst (λ l. Gathered took faults old mid (page0 ++ all) page l) (sym (append-nil text)) g) s

  -- there is nothing to gather
  pub gathered_nothing : (old : K) (page line : List ℕ) → line ≡ [] → Gathered took faults old old (page ++ line) page
      []
  gathered_nothing old page line none =
      subst (λ l. Gathered took faults old old (page ++ l) page []) (sym none) (gathered_begin took faults old page [])

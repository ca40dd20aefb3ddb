-- Lines that are gathered one after another, and then written.
use Rattle.std.proofs.Common.{◌≡◌, ℕ, List, [], ◌++◌, length, Option, Result, Ok, Err, refl, sym, ◌∙◌, ap, subst}
use Rattle.std.proofs.Common.{inl, inr, arith}
use Rattle.std.specs.Result.{IsErrAnd}
use Rattle.std.proofs.Math.Seq.{take-length}
use Rattle.xb_io.specs.Causes.{TookFront, with_text}
use Rattle.xb_io.specs.Pages.{Gathered, Puts, Stops}
use Rattle.xb_io.specs.declared.page.Halt.{Halt}
use Rattle.xb_io.specs.declared.page.Halt.TheVariants as halts
use Rattle.xb_io.proofs.PageLemmas.{gathers_then, puts_gathered, stops_append, stops_then}
use Rattle.spk_model.proofs.GatherLemmas.{gathered_line}
use Rattle.xbgp_top.specs.declared.status.Status.{Status}
use Rattle.xbgp_top.specs.declared.status.Status.TheVariants.{Done}
use Rattle.xbgp_top.specs.Answers.{Answer, answered}
use Rattle.xbgp_top.specs.Outputs.{Writes, end_status}

module _ {K : Type 0} (took : K → Option (List ℕ)) (faults : K → ℕ) where
  -- the next line, which was shown, was gathered
  pub gathered_shown : (old mid new : K) (whole page next shown line lines rest : List ℕ)
      → shown ≡ line → lines ≡ line ++ rest
      → Gathered took faults old mid whole page lines → Gathered took faults mid new (page ++ shown) next []
      → Gathered took faults old new whole next rest
  gathered_shown old mid new whole page next shown line lines rest same is g h =
      gathered_line took faults old mid new whole page next line lines rest is g
      (subst (λ l. Gathered took faults mid new (page ++ l) next []) same h)

  -- the gathering of the next line, which was shown, ended early
  pub stops_shown : (old mid new : K) (whole page shown line lines rest : List ℕ) (halt : Halt) → shown ≡ line
      → lines ≡ line ++ rest
      → Gathered took faults old mid whole page lines → Stops took faults mid new (page ++ shown) halt
      → Stops took faults old new whole halt
  stops_shown old mid new whole page shown line lines rest halt same is g s =
      stops_then took faults old mid new whole page line rest halt
      (subst (λ l. Gathered took faults old mid whole page l) is g)
      (subst (λ l. Stops took faults mid new (page ++ l) halt) same s)

  -- a call that hands an error on by `?` ends as that error says
  pub puts_stopped : (old new : K) (text : List ℕ) (halt : Halt) (result : Result (Unit {0}) Halt)
      → IsErrAnd result (λ h. h ≡ halt) → Stops took faults old new text halt → Puts took faults old new text result
  puts_stopped old new text halt (Ok done) wrong stops = absurd wrong
  puts_stopped old new text halt (Err h) same stops = subst (λ (t : Halt). Stops took faults old new text t) (sym same)
      stops

  -- the gathering of lines on an empty page ended early, and no end follows
  pub stops_lines : (old new : K) (first lines end : List ℕ) (halt : Halt) → first ≡ []
      → Stops took faults old new (first ++ lines) halt → Stops took faults old new (lines ++ end) halt
  stops_lines old new first lines end halt empty s =
      stops_append took faults old new [] lines end halt
      (subst (λ f. Stops took faults old new (f ++ lines) halt) empty s)

  -- lines were gathered on an empty page, and the gathering of the end ended early
  pub stops_end : (old mid new : K) (first lines page next end : List ℕ) (halt : Halt) → first ≡ []
      → Gathered took faults old mid (first ++ lines) page []
      → Stops took faults mid new (page ++ end) halt → Stops took faults old new (lines ++ end) halt
  stops_end old mid new first lines page next end halt empty g s =
      gathers_then took faults old mid new [] page next lines end (Err halt)
      (subst (λ f. Gathered took faults old mid (f ++ lines) page []) empty g) s

  -- lines and an end were gathered on an empty page, which was written
  pub puts_end : (old mid late new : K) (first lines page next shown end : List ℕ) (result : Result (Unit {0}) Halt)
      → first ≡ [] → Gathered took faults old mid (first ++ lines) page []
      → Gathered took faults mid late (page ++ end) next [] → shown ≡ next → Puts took faults late new shown result
      → Puts took faults old new (lines ++ end) result
  puts_end old mid late new first lines page next shown end result empty g h same p =
      let all : Gathered took faults old late (lines ++ end) next [] =
      gathers_then took faults old mid late [] page next lines end (Ok tt)
      (subst (λ f. Gathered took faults old mid (f ++ lines) page []) empty g) h in
      puts_gathered took faults old late new [] (lines ++ end) next result refl all
      (subst (λ t. Puts took faults late new t result) same p)

  -- a text was written, or that ended early, and the status says which
  pub writes_text : (old new : K) (text : List ℕ) (end : Result (Unit {0}) Halt) (answer : Answer) (status : Status)
      → answer ≡ answered Done text → status ≡ end_status end Done
      → Puts took faults old new text end → Writes answer took faults old new status
  writes_text old new text end answer status is e p =
      subst (λ (a : Answer). Writes a took faults old new status) (sym is)
      (subst (λ (s : Status). Writes (answered Done text) took faults old new s) (sym e) (by end p))
    where
      all_of : took new ≡ with_text (took old) text → TookFront (took old) (took new) text
      all_of e = (length text, e ∙ ap (with_text (took old)) (sym (take-length text)))

      by : (end : Result (Unit {0}) Halt) → Puts took faults old new text end
          → Writes (answered Done text) took faults old new (end_status end Done)
      by (Ok done) p =
          record {
            only = inl refl;
            whole = λ a b. p.0;
            front = all_of p.0;
            fault = λ f. absurd (cc f);
            quiet = λ a b. p.1;
            later = omega (arith, p.1);
          }
      by (Err halts.WriteFault) s =
          record {
            only = inr (inl refl);
            whole = λ a b. absurd (a refl);
            front = s.front;
            fault = λ f. inr (s.fault refl);
            quiet = λ a b. absurd (a refl);
            later = s.later;
          }
      by (Err halts.OutOfMemory) s =
          record {
            only = inr (inr refl);
            whole = λ a b. absurd (b refl);
            front = s.front;
            fault = λ f. absurd (cc f);
            quiet = λ a b. absurd (b refl);
            later = s.later;
          }

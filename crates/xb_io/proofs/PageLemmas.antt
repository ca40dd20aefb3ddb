-- Text on its way to a sink by a page.
use Rattle.std.proofs.Common.{◌≡◌, ℕ, ◌+◌, ◌≤◌, List, [], ◌++◌, length, take, Option, Some, None, Result, Ok, Err, refl}
use Rattle.std.proofs.Common.{sym, ◌∙◌, ap, subst, inl, inr, arith, append_assoc}
use Rattle.std.proofs.lemmas.List.{append-nil, take_all, take-append-le}
use Rattle.std.proofs.lemmas.Bool.{cases_lt}
use Rattle.std.proofs.Math.Seq.{take-append-add, take-length}
use Rattle.std.specs.Result.{IsErrAnd}
use Rattle.xb_io.specs.Causes.{FaultsRose, TookFront, with_text}
use Rattle.xb_io.specs.Pages.{Gathered, Stops, Gathers, Puts}
use Rattle.xb_io.specs.declared.page.Halt.{Halt}

-- with no text, what was taken stays
pub with_text-nil : (before : Option (List ℕ)) → before ≡ with_text before []
with_text-nil None = refl
with_text-nil (Some taken) = ap Some (sym (append-nil taken))

-- one text and then another are the two joined
with_text-append : (before : Option (List ℕ)) (xs ys : List ℕ)
    → with_text (with_text before xs) ys ≡ with_text before (xs ++ ys)
with_text-append None xs ys = refl
with_text-append (Some taken) xs ys = ap Some (append_assoc taken xs ys)

then_text : (before now later : Option (List ℕ)) (xs ys : List ℕ) → now ≡ with_text before xs → later ≡ with_text now ys
    → later ≡ with_text before (xs ++ ys)
then_text before now later xs ys e f =
    f ∙ ap (λ (o : Option (List ℕ)). with_text o ys) e ∙ with_text-append before xs ys

-- a front of the text that follows what was taken is a front of the whole
front_after : (before now later : Option (List ℕ)) (taken text rest : List ℕ) → now ≡ with_text before taken
    → TookFront now later text → TookFront before later (taken ++ (text ++ rest))
front_after before now later taken text rest e front =
    let cut = front_within taken text rest front.0 in (
      cut.0,
      then_text before now later taken (take front.0 text) e
          front.1 ∙ ap (with_text before) cut.1,
    )
  where
    front_within : (taken text rest : List ℕ) (n : ℕ)
        → (m : ℕ) × (taken ++ take n text ≡ take m (taken ++ (text ++ rest)))
    front_within taken text rest n = elim (cases_lt n (length text)) [
      | inl short ↦
          let within : n ≤ length text = omega arith in (
            length taken + n,
            sym (take-append-add taken (text ++ rest) n
                ∙ ap (λ l. taken ++ l) (take-append-le n text rest within)),
          )
      | inr long ↦
          let itself : length text ≤ length text = omega arith in (
            length taken + length text,
            ap (λ l. taken ++ l) (take_all n text long)
                ∙ sym (take-append-add taken (text ++ rest) (length text)
                ∙ ap (λ l. taken ++ l) (take-append-le (length text) text rest itself ∙ take-length text)),
          )
    ]

module _ {K : Type 0} (took : K → Option (List ℕ)) (faults : K → ℕ) where
  -- at first nothing was taken
  pub gathered_begin : (old : K) (page rest : List ℕ) → Gathered took faults old old (page ++ rest) page rest
  gathered_begin old page rest =
      record { taken = []; took_taken = with_text-nil (took old); joins = refl; quiet = refl }

  -- a text of what is to come was gathered
  pub gathered_then : (old mid new : K) (whole page next text rest : List ℕ)
      → Gathered took faults old mid whole page (text ++ rest) → Gathered took faults mid new (page ++ text) next []
      → Gathered took faults old new whole next rest
  gathered_then old mid new whole page next text rest g h =
      record {
        taken = g.taken ++ h.taken;
        took_taken = then_text (took old) (took mid) (took new) g.taken h.taken g.took_taken h.took_taken;
        joins = append_assoc g.taken h.taken (next ++ rest)
            ∙ ap (λ l. g.taken ++ l)
            (sym (append_assoc h.taken next rest) ∙ ap (λ l. l ++ rest)
            (ap (λ l. h.taken ++ l) (sym (append-nil next)) ∙ h.joins) ∙ append_assoc page text rest)
            ∙ g.joins;
        quiet = h.quiet ∙ g.quiet;
      }

  -- the gathering of a text of what is to come ended early
  pub stops_then : (old mid new : K) (whole page text rest : List ℕ) (halt : Halt)
      → Gathered took faults old mid whole page (text ++ rest) → Stops took faults mid new (page ++ text) halt
      → Stops took faults old new whole halt
  stops_then old mid new whole page text rest halt g s =
      let all : g.taken ++ ((page ++ text) ++ rest) ≡ whole = ap (λ l. g.taken ++ l) (append_assoc page text rest)
      ∙ g.joins in
      record {
        front =
            subst (λ w. TookFront (took old) (took new) w) all
            (front_after (took old) (took mid) (took new) g.taken (page ++ text) rest g.took_taken s.front);
        fault = λ e. subst (λ (n : ℕ). FaultsRose n (faults new)) g.quiet (s.fault e);
        later = omega (arith, g.quiet, s.later);
      }

  -- a text is still to come after one that was gathered
  gathered_more : (old new : K) (whole page text : List ℕ) → Gathered took faults old new whole page []
      → Gathered took faults old new (whole ++ text) page (text ++ [])
  gathered_more old new whole page text g =
      record {
        taken = g.taken;
        took_taken = g.took_taken;
        joins = ap (λ l. g.taken ++ (page ++ l)) (append-nil text)
            ∙ sym (append_assoc g.taken page text) ∙ ap (λ l. l ++ text)
            (ap (λ l. g.taken ++ l) (sym (append-nil page)) ∙ g.joins);
        quiet = g.quiet;
      }

  -- two texts, one after the other
  pub gathers_then : (old mid new : K) (page middle next first second : List ℕ) (end : Result (Unit {0}) Halt)
      → Gathered took faults old mid (page ++ first) middle [] → Gathers took faults mid new middle next second end
      → Gathers took faults old new page next (first ++ second) end
  gathers_then old mid new page middle next first second (Ok done) one two =
      subst (λ w. Gathered took faults old new w next []) (append_assoc page first second)
      (gathered_then old mid new ((page ++ first) ++ second) middle next second []
      (gathered_more old mid (page ++ first) middle second one) two)
  gathers_then old mid new page middle next first second (Err halt) one two =
      subst (λ w. Stops took faults old new w halt) (append_assoc page first second)
      (stops_then old mid new ((page ++ first) ++ second) middle second [] halt
      (gathered_more old mid (page ++ first) middle second one) two)

  -- what ended early in the first of two texts ended early in both
  pub stops_append : (old new : K) (page first second : List ℕ) (halt : Halt)
      → Stops took faults old new (page ++ first) halt → Stops took faults old new (page ++ (first ++ second)) halt
  stops_append old new page first second halt s =
      record {
        front = subst (λ w. TookFront (took old) (took new) w) (append_assoc page first second)
            (front_after (took old) (took old) (took new) [] (page ++ first) second (with_text-nil (took old)) s.front);
        fault = s.fault;
        later = s.later;
      }

  -- a call that hands an error on by `?` ends as that error says
  pub gathers_stopped : (old new : K) (page next text : List ℕ) (halt : Halt) (result : Result (Unit {0}) Halt)
      → IsErrAnd result (λ h. h ≡ halt) → Stops took faults old new (page ++ text) halt
      → Gathers took faults old new page next text result
  gathers_stopped old new page next text halt (Ok done) wrong stops = absurd wrong
  gathers_stopped old new page next text halt (Err h) same stops =
      subst (λ (t : Halt). Stops took faults old new (page ++ text) t) (sym same) stops

  -- a text that was gathered on an empty page, which is then written, is written
  pub puts_gathered : (old mid new : K) (first text page : List ℕ) (end : Result (Unit {0}) Halt)
      → first ≡ [] → Gathered took faults old mid (first ++ text) page [] → Puts took faults mid new page end
      → Puts took faults old new text end
  puts_gathered old mid new first text page end empty g p =
      by end (subst (λ l. Gathered took faults old mid (l ++ text) page []) empty g) p
    where
      by : (end : Result (Unit {0}) Halt) → Gathered took faults old mid text page []
          → Puts took faults mid new page end → Puts took faults old new text end
      by (Ok done) g p = (
        then_text (took old) (took mid) (took new) g.taken page g.took_taken p.0
            ∙ ap (with_text (took old)) (ap (λ l. g.taken ++ l) (sym (append-nil page)) ∙ g.joins),
        p.1 ∙ g.quiet,
      )
      by (Err halt) g s =
          record {
            front =
                subst (λ w. TookFront (took old) (took new) w) g.joins
                (front_after (took old) (took mid) (took new) g.taken page [] g.took_taken s.front);
            fault = λ e. subst (λ (n : ℕ). FaultsRose n (faults new)) g.quiet (s.fault e);
            later = omega (arith, g.quiet, s.later);
          }

  -- a text that is on a page which was empty
  pub gathered_on_page : (old : K) (text : List ℕ) → Gathered took faults old old ([] ++ text) text []
  gathered_on_page old text =
      record { taken = []; took_taken = with_text-nil (took old); joins = append-nil text; quiet = refl }

  -- a text that was written to the sink, with nothing on the page
  pub gathers_past_page : (old new : K) (next text : List ℕ) (end : Result (Unit {0}) Halt) → next ≡ []
      → Puts took faults old new text end → Gathers took faults old new [] next text end
  gathers_past_page old new next text (Ok done) empty p =
      record {
        taken = text;
        took_taken = p.0;
        joins = ap (λ l. text ++ (l ++ [])) empty
            ∙ append-nil text;
        quiet = p.1;
      }
  gathers_past_page old new next text (Err halt) empty s = s

  -- the page was written, and then a text was gathered on an empty page, or that ended early
  pub gathers_after_put : (old mid new : K) (page shown next text : List ℕ) (end : Result (Unit {0}) Halt)
      → shown ≡ page → (took mid ≡ with_text (took old) shown) × (faults mid ≡ faults old)
      → Gathers took faults mid new [] next text end
      → Gathers took faults old new page next text end
  gathers_after_put old mid new page shown next text end same p h = by end (rw same at p) h
    where
      by : (end : Result (Unit {0}) Halt) → (took mid ≡ with_text (took old) page) × (faults mid ≡ faults old)
          → Gathers took faults mid new [] next text end
          → Gathers took faults old new page next text end
      by (Ok done) p h =
          record {
            taken = page ++ h.taken;
            took_taken = then_text (took old) (took mid) (took new) page h.taken p.0 h.took_taken;
            joins = append_assoc page h.taken (next ++ []) ∙ ap (λ l. page ++ l) h.joins;
            quiet = h.quiet ∙ p.1;
          }
      by (Err halt) p s =
          record {
            front =
                subst (λ w. TookFront (took old) (took new) w) (ap (λ l. page ++ l) (append-nil text))
                (front_after (took old) (took mid) (took new) page text [] p.0 s.front);
            fault = λ r. subst (λ (n : ℕ). FaultsRose n (faults new)) p.1 (s.fault r);
            later = omega (arith, p.1, s.later);
          }

  -- the writing of the page ended early, and so the gathering of a text after it
  pub gathers_failed_put : (old new : K) (page shown next text : List ℕ) (halt : Halt) (result : Result (Unit {0}) Halt)
      → shown ≡ page → IsErrAnd result (λ h. h ≡ halt) → Stops took faults old new shown halt
      → Gathers took faults old new page next text result
  gathers_failed_put old new page shown next text halt result same is s =
      gathers_stopped old new page next text halt result is
      (stops_append old new [] page text halt (subst (λ l. Stops took faults old new l halt) same s))

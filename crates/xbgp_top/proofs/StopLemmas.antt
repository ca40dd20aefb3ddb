-- How a run ends at a step over a shelf that gave no value.
use Rattle.std.proofs.Common.{◌≡◌, ◌≢◌, ◌⊎◌, ℕ, List, [], Option, Some, None, Err}
use Rattle.std.proofs.Common.{refl, sym, ◌∙◌, ap, subst, inl, inr, arith}
use Rattle.std.proofs.lemmas.List.{take_all}
use Rattle.xb_io.specs.Causes.{Files, FaultsRose, TookFront, with_text}
use Rattle.xbgp_top.specs.declared.status.Status.{Status}
use Rattle.xbgp_top.specs.declared.status.Status.TheVariants.{ReadFault, WriteFault, OutOfMemory}
use Rattle.xbgp_top.specs.Answers.{Answer, Outcome, ended, fault_text}
use Rattle.xbgp_top.specs.Inputs.{Obtains}
use Rattle.xbgp_top.specs.Outputs.{Writes}
use Rattle.xbgp_top.specs.Top.{Explains, IsAnswered, SaysMissing}

-- what took no text took a front of any text
pub front_of_nothing : (before now : Option (List ℕ)) (text : List ℕ) → TookFront before now []
    → TookFront before now text
front_of_nothing before now text front =
    (0, front.1 ∙ ap (with_text before) (take_all front.0 [] (omega arith)))

-- how a run ends
module _ {S K : Type 0} (held : S → Option Files) (reads : S → ℕ) (took : K → Option (List ℕ)) (writes : K → ℕ)
    (shelf_old shelf_new : S) (sink_old sink_new : K) (status : Status) where
  -- a step over the shelf gave a status, whose line was written
  pub explains_stopped : {A : Type 0} (want : Files → Outcome A) (why : Status) (told : Files → Answer)
      → ((files : Files) → want files ≡ Err why → told files ≡ ended (Err why))
      → Obtains held reads shelf_old shelf_new want (Err why)
      → Writes (ended (Err why)) took writes sink_old sink_new status → (why ≡ ReadFault → status ≡ ReadFault)
      → Explains held reads took writes shelf_old shelf_new sink_old sink_new told status
  explains_stopped want why told as_told o w unread =
      record {
        exact = λ files e no_read no_write memory.
            let written : status ≢ WriteFault = λ fault. elim (w.fault fault) as (λ _. ⊥) [
              | inl other ↦ o.write (ap Err other)
              | inr rose ↦ no_write rose
            ] in
            let same : status ≡ why = elim (w.only) as (λ _. status ≡ why) [
              | inl s ↦ s
              | inr failed ↦ elim failed as (λ _. status ≡ why) [
                | inl f ↦ absurd (written f)
                | inr m ↦ absurd (memory m)
              ]
            ] in
            elim (o.told files e) as (λ _. IsAnswered (told files) (took sink_old) (took sink_new) status) [
              | inl gives ↦ elim gives as (λ _. IsAnswered (told files) (took sink_old) (took sink_new) status) [
                | inl none ↦ absurd (memory (same ∙ none))
                | inr is ↦ subst (λ (a : Answer). IsAnswered a (took sink_old) (took sink_new) status)
                    (sym (as_told files is)) (same, λ _. w.whole written memory)
              ]
              | inr read ↦ absurd (no_read read.1)
            ];
        front = λ files e.
            elim (o.told files e) as (λ _. TookFront (took sink_old) (took sink_new) (told files).text) [
              | inl gives ↦ elim gives as (λ _. TookFront (took sink_old) (took sink_new) (told files).text) [
                | inl none ↦ front_of_nothing (took sink_old) (took sink_new) (told files).text
                    (no_line OutOfMemory none w.front)
                | inr is ↦ subst (λ (a : Answer). TookFront (took sink_old) (took sink_new) a.text)
                    (sym (as_told files is)) w.front
              ]
              | inr read ↦ front_of_nothing (took sink_old) (took sink_new) (told files).text
                  (no_line ReadFault (cc read.0) w.front)
            ];
        read_cause = λ fault.
            let why_is : why ≡ ReadFault = elim (w.only) as (λ _. why ≡ ReadFault) [
              | inl s ↦ sym s ∙ fault
              | inr failed ↦ absurd (elim failed as (λ _. ⊥) [ inl f ↦ cc | inr m ↦ cc ])
            ] in
            read_fault why_is (held shelf_old) refl;
        write_cause = λ fault. elim (w.fault fault) as (λ _. FaultsRose (writes sink_old) (writes sink_new)) [
          | inl other ↦ absurd (o.write (ap Err other))
          | inr rose ↦ rose
        ];
        quiet_shelf = λ read memory. o.quiet (λ e. read (unread (cc e)));
        quiet_sink = w.quiet;
        later_shelf = o.later;
        later_sink = w.later;
      }
    where
      no_line : (s : Status) → why ≡ s → TookFront (took sink_old) (took sink_new) (fault_text why)
          → TookFront (took sink_old) (took sink_new) (fault_text s)
      no_line s is front = subst (λ (t : Status). TookFront (took sink_old) (took sink_new) (fault_text t)) is front

      read_fault : why ≡ ReadFault → (h : Option Files) → held shelf_old ≡ h
          → FaultsRose (reads shelf_old) (reads shelf_new) ⊎ SaysMissing h told
      read_fault is None e = inl (o.cause e (ap Err is))
      read_fault is (Some files) e =
          let Cause : Type 0 = FaultsRose (reads shelf_old) (reads shelf_new) ⊎ ((told files).status ≡ ReadFault) in
          elim (o.told files e) as (λ _. Cause) [
            | inl gives ↦ elim gives as (λ _. Cause) [
              | inl none ↦ absurd (let f : OutOfMemory ≡ ReadFault = sym none ∙ is in cc f)
              | inr got ↦ inr (ap (λ (a : Answer). a.status) (as_told files got) ∙ is)
            ]
            | inr read ↦ inl read.1
          ]

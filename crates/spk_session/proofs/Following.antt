-- One function after another.
use Rattle.std.proofs.Common.{◌≡◌, refl, sym, ◌∙◌, ap, ℕ, List, [], ◌∷◌, ◌++◌, fold}
use Rattle.std.proofs.lemmas.List.Sums.{fold_push}
use Rattle.std.specs.Result.{OnOk}
use Rattle.std.specs.declared.result.Result.{Result}
use Rattle.std.specs.declared.result.Result.TheVariants.{Ok, Err}
use Rattle.xb_domain.specs.Outputs.{Output}
use Rattle.spk_model.specs.declared.host.Setup.{Setup}
use Rattle.spk_model.specs.Choosing.{Trace}
use Rattle.spk_model.specs.Turning.{Speaker, Turn}
use Rattle.spk_session.specs.Meaning.{Core, Does, IsReady, speaker_of, turn_of}

-- nothing was done
pub does_nothing : (c : Core) → IsReady c → Does (λ setup t. t) c c
does_nothing c ready =
    record { ready = ready; setup = refl; speaker = λ waits trace. refl; outputs = λ waits trace. refl }

-- a turn by its parts
pub turn_by_parts : (t : Turn) (s : Speaker) (os : List Output) → t.speaker ≡ s → t.outputs ≡ os
    → t ≡ record { speaker = s; outputs = os; trace = t.trace }
turn_by_parts t s os p q =
    ap (λ (x : Speaker). record { speaker = x; outputs = t.outputs; trace = t.trace }) p
    ∙ ap (λ (x : List Output). record { speaker = s; outputs = x; trace = t.trace }) q

-- two steps, one after the other
pub does_then : (f g : Setup → Turn → Turn) (a b c : Core) → Does f a b → Does g b c
    → Does (λ setup t. g setup (f setup t)) a c
does_then f g a b c one two =
    let met : (waits : List (List ℕ)) (trace : Trace)
    → f a.setup (turn_of waits trace a) ≡ turn_of waits (f a.setup (turn_of waits trace a)).trace b =
    λ waits trace. turn_by_parts (f a.setup (turn_of waits trace a)) (speaker_of waits b) (b.links).outputs
    (one.speaker waits trace) (one.outputs waits trace) in
    let step : (waits : List (List ℕ)) (trace : Trace)
    → g a.setup (f a.setup (turn_of waits trace a))
    ≡ g b.setup (turn_of waits (f a.setup (turn_of waits trace a)).trace b) =
    λ waits trace. ap (g a.setup) (met waits trace)
    ∙ ap (λ (s : Setup). g s (turn_of waits (f a.setup (turn_of waits trace a)).trace b)) (sym one.setup) in
    record {
      ready = two.ready;
      setup = two.setup ∙ one.setup;
      speaker = λ waits trace. ap (λ (t : Turn). t.speaker) (step waits trace)
          ∙ two.speaker waits (f a.setup (turn_of waits trace a)).trace;
      outputs = λ waits trace. ap (λ (t : Turn). t.outputs) (step waits trace)
          ∙ two.outputs waits (f a.setup (turn_of waits trace a)).trace;
    }

-- the same step in other words
pub does_same : (f g : Setup → Turn → Turn) (a b : Core)
    → ((waits : List (List ℕ)) (trace : Trace) → f a.setup (turn_of waits trace a) ≡ g a.setup (turn_of waits trace a))
    → Does f a b → Does g a b
does_same f g a b same d =
    record {
      ready = d.ready;
      setup = d.setup;
      speaker = λ waits trace. ap (λ (t : Turn). t.speaker) (sym (same waits trace)) ∙ d.speaker waits trace;
      outputs = λ waits trace. ap (λ (t : Turn). t.outputs) (sym (same waits trace)) ∙ d.outputs waits trace;
    }

-- a step for each item of a list, and for one more
pub does_push : {A : Type 0} (f : Setup → Turn → A → Turn) (xs ys : List A) (x : A) (a b c : Core) → ys ≡ xs ++ x ∷ []
    → Does (λ setup t. fold (f setup) t xs) a b → Does (λ setup t. f setup t x) b c
    → Does (λ setup t. fold (f setup) t ys) a c
does_push f xs ys x a b c is so_far d =
    does_same (λ setup t. f setup (fold (f setup) t xs) x) (λ setup t. fold (f setup) t ys) a c
    (λ waits trace. sym (ap (λ l. fold (f a.setup) (turn_of waits trace a) l) is
    ∙ fold_push (f a.setup) (turn_of waits trace a) xs x))
    (does_then (λ setup t. fold (f setup) t xs) (λ setup t. f setup t x) a b c so_far d)

-- two facts of one success
pub on_ok_two : {T E P Q S : Type 0} (r : Result T E) → (P → Q → S) → OnOk r P → OnOk r Q → OnOk r S
on_ok_two (Ok x) f p q = f p q
on_ok_two (Err e) f p q = p

-- One function of a core after another.
use Rattle.std.proofs.Common.{◌≡◌, refl, sym, ◌∙◌, ap, subst, ℕ, ◌+◌, List, [], ◌∷◌, fold, length, arith}
use Rattle.std.specs.Prelude.{Result, Ok, Err, OnOk, OnErr, MatchResult}
use Rattle.std.specs.declared.alloc.AllocError.{AllocError}
use Rattle.std.specs.List.{range_with_len}
use Rattle.std.specs.Result.{IsErr}
use Rattle.std.specs.Map.{keys_of}
use Rattle.std.proofs.lemmas.List.Sums.{fold_push}
use Rattle.spk_model.specs.declared.host.Setup.{Setup}
use Rattle.spk_model.specs.Choosing.{Trace}
use Rattle.xb_values.specs.Prefixes.{Prefix}
use Rattle.bgp_fsm.specs.Sessions.{Owned}
use Rattle.spk_model.specs.Routing.{Routing, Routed, export, export_all}
use Rattle.spk_routes.proofs.RangeLemmas.{range_with_len-more}
use Rattle.host_interned.specs.declared.routing.Core.{Core}
use Rattle.host_interned.specs.Meaning.{Does, Goes, IsReady, setup_of, routed}

-- nothing was done
pub does_nothing : (c : Core) → IsReady c → Does (λ setup t. t) c c
does_nothing c ready = record { ready = ready; setup = refl; routing = λ trace. refl }

-- two steps, one after the other
pub does_then : (f g : Setup → Routed → Routed) (a b c : Core) → Does f a b → Does g b c
    → Does (λ setup t. g setup (f setup t)) a c
does_then f g a b c one two = record {
  ready = two.ready;
  setup = two.setup ∙ one.setup;
  routing = λ trace.
      let after : Routed = f (setup_of a) (routed trace a) in
      let met : after ≡ routed after.trace b =
      ap (λ (x : Routing). record { routing = x; trace = after.trace }) (one.routing trace) in
      ap (λ (t : Routed). (g (setup_of a) t).routing) met
      ∙ ap (λ (s : Setup). (g s (routed after.trace b)).routing) (sym one.setup)
      ∙ two.routing after.trace;
}

-- the same step in other words
pub does_same : (f g : Setup → Routed → Routed) (a b : Core)
    → ((trace : Trace) → f (setup_of a) (routed trace a) ≡ g (setup_of a) (routed trace a)) → Does f a b → Does g a b
does_same f g a b same d = record {
  ready = d.ready;
  setup = d.setup;
  routing = λ trace. ap (λ (t : Routed). t.routing) (sym (same trace)) ∙ d.routing trace;
}

-- after a step, another for each number from one on: with one more
pub does_more : (g : Setup → Routed → Routed) (f : Setup → Routed → ℕ → Routed) (n p : ℕ) (a b c : Core) → p ≡ n + 1
    → Does (λ setup t. fold (f setup) (g setup t) (range_with_len 1 n)) a b → Does (λ setup t. f setup t p) b c
    → Does (λ setup t. fold (f setup) (g setup t) (range_with_len 1 (n + 1))) a c
does_more g f n p a b c is so_far d =
    let next : 1 + n ≡ p = omega arith in
    does_same (λ setup t. f setup (fold (f setup) (g setup t) (range_with_len 1 n)) p)
    (λ setup t. fold (f setup) (g setup t) (range_with_len 1 (n + 1))) a c
    (λ trace. sym (ap (λ l. fold (f (setup_of a)) (g (setup_of a) (routed trace a)) l) (range_with_len-more 1 n)
    ∙ fold_push (f (setup_of a)) (g (setup_of a) (routed trace a)) (range_with_len 1 n) (1 + n)
    ∙ ap (f (setup_of a) (fold (f (setup_of a)) (g (setup_of a) (routed trace a)) (range_with_len 1 n))) next))
    (does_then (λ setup t. fold (f setup) (g setup t) (range_with_len 1 n)) (λ setup t. f setup t p) a b c so_far d)

-- what is left of a list of steps, with the first of them
pub does_first : {A : Type 0} (f : Setup → Routed → A → Routed) (x : A) (all rest : List A) (a b c : Core)
    → all ≡ x ∷ rest → Does (λ setup t. f setup t x) a b → Does (λ setup t. fold (f setup) t rest) b c
    → Does (λ setup t. fold (f setup) t all) a c
does_first f x all rest a b c is one others =
    subst (λ l. Does (λ setup t. fold (f setup) t l) a c) (sym is)
    (does_then (λ setup t. f setup t x) (λ setup t. fold (f setup) t rest) a b c one others)

-- nothing is left of a list of steps
pub does_none : {A : Type 0} (f : Setup → Routed → A → Routed) (all : List A) (a : Core) → all ≡ [] → IsReady a
    → Does (λ setup t. fold (f setup) t all) a a
does_none f all a is ready =
    subst (λ l. Does (λ setup t. fold (f setup) t l) a a) (sym is) (does_nothing a ready)

-- a step keeps how many peers are configured
pub does_peers : (f : Setup → Routed → Routed) (a b : Core) → Does f a b
    → length b.config.peers ≡ length a.config.peers
does_peers f a b d = ap (λ (s : Setup). length (s.config).peers) d.setup

-- each best route has its export
pub does_all : (a b : Core) (sessions : List Owned) (p : ℕ) (items : List Prefix) → items ≡ keys_of a.rib.best
    → Does (λ setup t. fold (λ u q. export setup sessions q u p) t items) a b
    → Does (λ setup t. export_all setup sessions t p) a b
unfolding export_all
does_all a b sessions p items is d =
    does_same (λ setup t. fold (λ u q. export setup sessions q u p) t items)
    (λ setup t. export_all setup sessions t p) a b
    (λ trace. ap (λ l. fold (λ u q. export (setup_of a) sessions q u p) (routed trace a) l) is) d

-- what goes on after a step goes on from before it
pub goes_weaker : (r : Result (Unit {0}) AllocError) (f g : Setup → Routed → Routed) (a b c : Core)
    → (Does g b c → Does f a c) → Goes r g b c → Goes r f a c
goes_weaker (Ok u) f g a b c to goes = to goes
goes_weaker (Err e) f g a b c to goes = goes

-- the same of what is known after a call
pub goes_match : {P : Type 0} (r : Result (Unit {0}) AllocError) (f : Setup → Routed → Routed) (a c : Core)
    → (P → Does f a c) → MatchResult r (λ v. P) (λ e. IsReady c) → Goes r f a c
goes_match (Ok u) f a c to known = to known
goes_match (Err e) f a c to known = known

pub match_goes : {P : Type 0} (r : Result (Unit {0}) AllocError) (f : Setup → Routed → Routed) (a c : Core)
    → (Does f a c → P) → Goes r f a c → MatchResult r (λ v. P) (λ e. IsReady c)
match_goes (Ok u) f a c to known = to known
match_goes (Err e) f a c to known = known

-- what was done, or a core that may be used again
pub goes_ok : {P : Type 0} (r : Result (Unit {0}) AllocError) (f : Setup → Routed → Routed) (a c : Core)
    → (P → Does f a c) → IsReady c → OnOk r P → Goes r f a c
goes_ok (Ok u) f a c to ready known = to known
goes_ok (Err e) f a c to ready known = ready

-- the same where an error says what makes the core ready
pub goes_both : {P Q : Type 0} (r : Result (Unit {0}) AllocError) (f : Setup → Routed → Routed) (a c : Core)
    → (P → Does f a c) → (Q → IsReady c) → OnOk r P → OnErr r Q → Goes r f a c
goes_both (Ok u) f a c to ready ok err = to ok
goes_both (Err e) f a c to ready ok err = ready err

-- there was no memory, and the core may be used again
pub goes_err : (r : Result (Unit {0}) AllocError) (f : Setup → Routed → Routed) (a c : Core) → IsReady c → IsErr r
    → Goes r f a c
goes_err (Ok u) f a c ready is = absurd (cc is)
goes_err (Err e) f a c ready is = ready

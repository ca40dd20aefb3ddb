-- Timers that fire one after another.
use Rattle.std.proofs.Common.{◌≡◌, ◌≤◌, ◌<◌, ◌-◌, ◌+◌, ◌*◌, refl, sym, ◌∙◌, ap, subst, ℕ, zero, suc, Bool, true, false}
use Rattle.std.proofs.Common.{List, [], ◌∷◌, ◌++◌, length, arith, Option, Some, None}
use Rattle.std.specs.Prelude.{IfSome, nat_lt, if◌then◌else◌, slice_index_or}
use Rattle.std.specs.List.{range_with_len}
use Rattle.std.specs.Option.{option_map}
use Rattle.std.proofs.lemmas.Bool.{le-leb, lt-leb}
use Rattle.std.proofs.lemmas.List.{get_or_default}
use Rattle.std.proofs.lemmas.List.Sums.{fold_push}
use Rattle.bgp_fsm.specs.declared.Timer.{Timer}
use Rattle.bgp_fsm.specs.Sessions.{Owned, due}
use Rattle.spk_model.specs.declared.host.Setup.{Setup}
use Rattle.spk_model.specs.Sources.{session_of, peer_numbers}
use Rattle.spk_model.specs.Turning.{Turn, Due, earlier_due, first_due, fire_first, fire_in_time, set_clock}
use Rattle.spk_model.specs.Turning.{time_turns, time_to}
use Rattle.spk_session.specs.Meaning.{Core, Does, IsReady, turn_of}
use Rattle.spk_session.specs.Firing.{due_at, first_of, fires, Leads}
use Rattle.spk_session.proofs.Following.{does_then, does_same}

-- ---- the first timer

-- one number more
range_more : (a n : ℕ) → range_with_len a (suc n) ≡ range_with_len a n ++ (a + n) ∷ []
range_more a zero = let same : a ≡ a + 0 = omega arith in ap (λ (x : ℕ). x ∷ []) same
range_more a (suc n) =
    let same : a + 1 + n ≡ a + suc n = omega arith in
    ap (λ (l : List ℕ). a ∷ l)
    (range_more (a + 1) n ∙ ap (λ (x : ℕ). range_with_len (a + 1) n ++ x ∷ []) same)

one_more : (ss : List Owned) (i : ℕ)
    → first_of ss (range_with_len 1 (suc i)) ≡ earlier_due (first_of ss (range_with_len 1 i)) (due_at ss (1 + i))
one_more ss i =
    ap (first_of ss) (range_more 1 i)
    ∙ fold_push (λ a p. earlier_due a (due_at ss p)) None (range_with_len 1 i) (1 + i)

-- the timer of a session that is one of some
due_read : (ss : List Owned) (i : ℕ) (own : Owned) → i < length ss → own ≡ slice_index_or ss i own
    → option_map (λ d. record { at = d.0; peer = i + 1; timer = d.1 }) (due own.session) ≡ due_at ss (i + 1)
due_read ss i own inside is =
    let same : i ≡ i + 1 - 1 = omega arith in
    let read : own ≡ session_of ss (i + 1) =
    is ∙ get_or_default ss i own (session_of [] 1) inside
    ∙ ap (λ (k : ℕ). slice_index_or ss k (session_of [] 1)) same in
    ap (λ (x : Owned). option_map (λ d. record { at = d.0; peer = i + 1; timer = d.1 }) (due x.session)) read

-- one peer more
pub first_more : (ss : List Owned) (i : ℕ) (own : Owned) (first more : Option Due) (one : Option Due)
    → i < length ss → own ≡ slice_index_or ss i own → first ≡ first_of ss (range_with_len 1 i)
    → one ≡ option_map (λ d. record { at = d.0; peer = i + 1; timer = d.1 }) (due own.session)
    → more ≡ earlier_due first one → more ≡ first_of ss (range_with_len 1 (i + 1))
first_more ss i own first more one inside own_is first_is one_is more_is =
    let last : 1 + i ≡ i + 1 = omega arith in
    let next : suc i ≡ i + 1 = omega arith in
    more_is ∙ ap (λ (o : Option Due). earlier_due o one) first_is
    ∙ ap (λ (o : Option Due). earlier_due (first_of ss (range_with_len 1 i)) o)
    (one_is ∙ due_read ss i own inside own_is ∙ ap (due_at ss) (sym last))
    ∙ sym (one_more ss i) ∙ ap (λ (n : ℕ). first_of ss (range_with_len 1 n)) next

-- a timer of one of the first peers
abbrev pub IsAmong : ℕ → Due → Type 0
IsAmong n d = (1 ≤ d.peer) × (d.peer ≤ n)

among_more : (n : ℕ) (a : Option Due) → IfSome a (IsAmong n) → IfSome a (IsAmong (suc n))
among_more n None h = h
among_more n (Some d) h = (h.0, omega (arith, h.1))

due_among : (n : ℕ) (o : Option (ℕ × Timer))
    → IfSome (option_map (λ d. record { at = d.0; peer = 1 + n; timer = d.1 }) o) (IsAmong (suc n))
due_among n None = tt
due_among n (Some d) = (omega arith, omega arith)

among_either : (n : ℕ) (b : Bool) (x y : Due) → IsAmong n x → IsAmong n y
    → IfSome (if b then Some y else Some x) (IsAmong n)
among_either n true x y h k = k
among_either n false x y h k = h

among_earlier : (n : ℕ) (a b : Option Due) → IfSome a (IsAmong n) → IfSome b (IsAmong n)
    → IfSome (earlier_due a b) (IsAmong n)
among_earlier n None b h k = k
among_earlier n (Some x) None h k = h
among_earlier n (Some x) (Some y) h k = among_either n (nat_lt y.at x.at) x y h k

-- the first timer is that of a peer
pub first_among : (ss : List Owned) (n : ℕ) → IfSome (first_of ss (range_with_len 1 n)) (IsAmong n)
first_among ss zero = tt
first_among ss (suc n) =
    subst (λ (o : Option Due). IfSome o (IsAmong (suc n))) (sym (one_more ss n))
    (among_earlier (suc n) (first_of ss (range_with_len 1 n)) (due_at ss (1 + n))
    (among_more n (first_of ss (range_with_len 1 n)) (first_among ss n))
    (due_among n (due (session_of ss (1 + n)).session)))

-- ---- the turns

-- the first timer of all
abbrev pub next_of : Core → Option Due
next_of c = first_of ((c.links).sessions).items (peer_numbers ((c.links).sessions).items)

-- the clock is set
abbrev pub clocked : ℕ → Core → Core
clocked now c = record c { links = record c.links { clock = now } }

clocked_done : (now : ℕ) (c : Core) → IsReady c → Does (λ s t. set_clock t now) c (clocked now c)
clocked_done now c ready = record {
  ready = record {
    even = record {
      few = (ready.even).few;
      rests = (ready.even).rests;
      flags = (ready.even).flags;
      room = (ready.even).room;
    };
    count = ready.count;
  };
  setup = refl;
  speaker = λ waits trace. refl;
  outputs = λ waits trace. refl;
}

next_turn : (s : Setup) (now n : ℕ) (t : Turn)
    → time_turns s (suc n) t now ≡ fire_first s (λ u. time_turns s n u now) t now (first_due t)
unfolding time_turns
next_turn s now n t = refl

no_turn : (s : Setup) (now : ℕ) (t : Turn) → time_turns s zero t now ≡ set_clock t now
unfolding time_turns
no_turn s now t = refl

-- a timer fired that was due
pub fired : (now all n m : ℕ) (first a b : Core) (d : Due) → n ≡ suc m → next_of a ≡ Some d → d.at ≤ now
    → Does (λ s t. fires s d t) a b → Leads now all first n a → Leads now all first m b
fired now all n m first a b d is next by does leads last e =
    leads last (subst (λ (k : ℕ). Does (λ s t. time_turns s k t now) a last) (sym is)
    (does_same (λ s t. time_turns s m (fires s d t) now) (λ s t. time_turns s (suc m) t now) a last
    (λ waits trace. sym (
    next_turn a.setup now m (turn_of waits trace a)
    ∙ ap (fire_first a.setup (λ u. time_turns a.setup m u now) (turn_of waits trace a) now) next
    ∙ ap (fire_in_time a.setup (λ u. time_turns a.setup m u now) (turn_of waits trace a) now d) (le-leb d.at now by)))
    (does_then (λ s t. fires s d t) (λ s t. time_turns s m t now) a b last does e)))

-- no turn is left
pub turns_over : (now all n : ℕ) (first a : Core) → n ≡ 0 → IsReady a → Leads now all first n a
    → Does (λ s t. time_turns s all t now) first (clocked now a)
turns_over now all n first a is ready leads =
    leads (clocked now a) (subst (λ (k : ℕ). Does (λ s t. time_turns s k t now) a (clocked now a)) (sym is)
    (does_same (λ s t. set_clock t now) (λ s t. time_turns s zero t now) a (clocked now a)
    (λ waits trace. sym (no_turn a.setup now (turn_of waits trace a))) (clocked_done now a ready)))

-- no timer is due any more
stops : (now all n m : ℕ) (first a : Core) → n ≡ suc m → IsReady a
    → ((s : Setup) (t : Turn) → fire_first s (λ u. time_turns s m u now) t now (next_of a) ≡ set_clock t now)
    → Leads now all first n a → Does (λ s t. time_turns s all t now) first (clocked now a)
stops now all n m first a is ready still leads =
    leads (clocked now a) (subst (λ (k : ℕ). Does (λ s t. time_turns s k t now) a (clocked now a)) (sym is)
    (does_same (λ s t. set_clock t now) (λ s t. time_turns s (suc m) t now) a (clocked now a)
    (λ waits trace. sym (next_turn a.setup now m (turn_of waits trace a) ∙ still a.setup (turn_of waits trace a)))
    (clocked_done now a ready)))

-- no timer is set
pub none_set : (now all n m : ℕ) (first a : Core) → n ≡ suc m → IsReady a → next_of a ≡ None
    → Leads now all first n a → Does (λ s t. time_turns s all t now) first (clocked now a)
none_set now all n m first a is ready none leads =
    stops now all n m first a is ready (λ s t. ap (fire_first s (λ u. time_turns s m u now) t now) none) leads

-- the first timer is due later
pub none_due : (now all n m : ℕ) (first a : Core) (d : Due) → n ≡ suc m → IsReady a → next_of a ≡ Some d
    → now < d.at → Leads now all first n a → Does (λ s t. time_turns s all t now) first (clocked now a)
none_due now all n m first a d is ready next later leads =
    stops now all n m first a is ready
    (λ s t. ap (fire_first s (λ u. time_turns s m u now) t now) next
    ∙ ap (fire_in_time s (λ u. time_turns s m u now) t now d) (lt-leb d.at now later)) leads

-- the first timer was found
pub next_found : (c : Core) (ss : List Owned) (found : Option Due) → ss ≡ ((c.links).sessions).items
    → found ≡ first_of ss (peer_numbers ss) → next_of c ≡ found
next_found c ss found all is =
    sym (is ∙ ap (λ (x : List Owned). first_of x (peer_numbers x)) all)

-- the turns are as many as the definition has
pub clock_done : (now all : ℕ) (first last : Core)
    → all ≡ 2 * length ((first.links).sessions).items * (now + 1 - (first.links).clock)
    → Does (λ s t. time_turns s all t now) first last → Does (λ s t. time_to s t now) first last
unfolding time_to
clock_done now all first last is d =
    does_same (λ s t. time_turns s all t now) (λ s t. time_to s t now) first last
    (λ waits trace. ap (λ (k : ℕ). time_turns first.setup k (turn_of waits trace first) now) is) d

-- Octets that come in two pieces do what they do in one.
use Rattle.std.proofs.Common.{◌≡◌, refl, sym, ap, ◌∙◌, inl, inr, ℕ, zero, suc, ◌-◌, ◌<◌, ◌≤◌, Bool, true, false}
use Rattle.std.proofs.Common.{not}
use Rattle.std.proofs.Common.{List, [], ◌∷◌, ◌++◌, length, take, drop, append_assoc, Option, Some, None, arith}
use Rattle.std.proofs.Common.{length-append}
use Rattle.std.proofs.lemmas.Bool.{cases_Bool, ltb-true, ltb-false}
use Rattle.std.proofs.lemmas.List.{append-nil, set_past, get_or_past, length-set, length-drop}
use Rattle.std.proofs.lemmas.List.{take-append-le, drop-append-le}
use Rattle.std.specs.Prelude.{if◌then◌else◌, nat_lt}
use Rattle.xb_domain.specs.Outputs.{Output}
use Rattle.xb_wire.specs.Messages.{Notification, message_size, front_fault}
use Rattle.xb_wire.proofs.MessageLemmas.{message_size_is_size, message_size_is_stable}
use Rattle.xb_wire.proofs.FaultLemmas.{message_size-fault, front_fault-append}
use Rattle.bgp_fsm.specs.Sessions.{is_live}
use Rattle.spk_model.specs.declared.host.Setup.{Setup}
use Rattle.spk_model.specs.Choosing.{Trace}
use Rattle.spk_model.specs.Turning.{Speaker, Turn, state_of, wait_of, set_wait, message_in, refuse, front_in}
use Rattle.spk_model.specs.Turning.{when_true, take_turns, octets_in, turn, event, history, before}
use Rattle.spk_model.specs.Laws.{cutting}
use Rattle.spk_model.proofs.EarlierLemmas.{after, octets_in-after}
use Rattle.spk_model.proofs.WaitLemmas.{wait_of-set_wait, set_wait-set_wait, message_in_leaves, refuse_ends}

-- ---- the front of octets

-- a test by its cases, with what it is
by_option : {A : Type 0} {B : Type 0} (o : Option A) → (o ≡ None → B) → ((x : A) → o ≡ Some x → B) → B
by_option None none some = none refl
by_option (Some x) none some = some x refl

-- a list without elements
nil_of : (w : List ℕ) → length w ≤ 0 → w ≡ []
nil_of [] none = refl
nil_of (x ∷ w) none = absurd (omega (arith, none))

-- ---- one turn of a session's octets

module _ (setup : Setup) (p : ℕ) where
  -- a session that is not live takes nothing
  pub take_turns-dead : (n : ℕ) (t : Turn) → is_live (state_of t p) ≡ false → take_turns setup n t p ≡ t
  unfolding take_turns
  take_turns-dead zero t dead = refl
  take_turns-dead (suc n) t dead =
      ap (λ (b : Bool). when_true setup b (λ u. front_in setup (λ v. take_turns setup n v p) u p
      (message_size (wait_of u p)) (front_fault (wait_of u p))) t) dead

  -- a live session takes what is at the front
  take_turns-live : (n : ℕ) (t : Turn) → is_live (state_of t p) ≡ true
      → take_turns setup (suc n) t p
      ≡ front_in setup (λ v. take_turns setup n v p) t p (message_size (wait_of t p)) (front_fault (wait_of t p))
  unfolding take_turns
  take_turns-live n t live =
      ap (λ (b : Bool). when_true setup b (λ u. front_in setup (λ v. take_turns setup n v p) u p
      (message_size (wait_of u p)) (front_fault (wait_of u p))) t) live

  -- a message at the front
  pub take_turns-message : (n k : ℕ) (t : Turn) (w : List ℕ) → is_live (state_of t p) ≡ true → wait_of t p ≡ w
      → message_size w ≡ Some k
      → take_turns setup (suc n) t p
      ≡ take_turns setup n (message_in setup (set_wait t p (drop k w)) p (take k w)) p
  take_turns-message n k t w live is size =
      take_turns-live n t live
      ∙ ap (λ (x : List ℕ). front_in setup (λ v. take_turns setup n v p) t p (message_size x) (front_fault x)) is
      ∙ ap (λ (o : Option ℕ). front_in setup (λ v. take_turns setup n v p) t p o (front_fault w)) size
      ∙ ap (λ (x : List ℕ). take_turns setup n (message_in setup (set_wait t p (drop k x)) p (take k x)) p) is

  -- a fault at the front
  pub take_turns-fault : (n : ℕ) (t : Turn) (w : List ℕ) (f : Notification) → is_live (state_of t p) ≡ true
      → wait_of t p ≡ w
      → front_fault w ≡ Some f → take_turns setup (suc n) t p ≡ refuse setup t p f
  take_turns-fault n t w f live is fault =
      take_turns-live n t live
      ∙ ap (λ (x : List ℕ). front_in setup (λ v. take_turns setup n v p) t p (message_size x) (front_fault x)) is
      ∙ ap (λ (o : Option ℕ). front_in setup (λ v. take_turns setup n v p) t p o (front_fault w))
      (message_size-fault w f fault)
      ∙ ap (λ (o : Option Notification). front_in setup (λ v. take_turns setup n v p) t p None o) fault

  -- nothing is at the front
  take_turns-still : (n : ℕ) (t : Turn) (w : List ℕ) → wait_of t p ≡ w → message_size w ≡ None → front_fault w ≡ None
      → take_turns setup n t p ≡ t
  unfolding take_turns
  take_turns-still zero t w is size fault = refl
  take_turns-still (suc n) t w is size fault =
      elim (cases_Bool (is_live (state_of t p))) [
        | inl live ↦
            take_turns-live n t live
            ∙ ap (λ (x : List ℕ). front_in setup (λ v. take_turns setup n v p) t p (message_size x) (front_fault x)) is
            ∙ ap (λ (o : Option ℕ). front_in setup (λ v. take_turns setup n v p) t p o (front_fault w)) size
            ∙ ap (λ (o : Option Notification). front_in setup (λ v. take_turns setup n v p) t p None o) fault
        | inr dead ↦ take_turns-dead (suc n) t dead
      ]

  -- octets for a session that is not live are dropped
  octets_in-dead : (t : Turn) (b : List ℕ) → is_live (state_of t p) ≡ false → octets_in setup t p b ≡ t
  unfolding octets_in
  octets_in-dead t b dead = ap (λ (c : Bool). if c
      then take_turns setup (length (wait_of t p ++ b)) (set_wait t p (wait_of t p ++ b)) p else t) dead

  pub octets_in-live : (t : Turn) (b : List ℕ) → is_live (state_of t p) ≡ true
      → octets_in setup t p b ≡ take_turns setup (length (wait_of t p ++ b)) (set_wait t p (wait_of t p ++ b)) p
  unfolding octets_in
  octets_in-live t b live = ap (λ (c : Bool). if c
      then take_turns setup (length (wait_of t p ++ b)) (set_wait t p (wait_of t p ++ b)) p else t) live

  -- ---- after a message

  -- what a message leaves, with the octets after it: the session is not live and the octets are gone, whatever they
  -- were, or it is live and they wait
  pub record Rest (t : Turn) (message : List ℕ) (w : List ℕ) : Type 0 where
    pub dead : is_live (state_of (message_in setup (set_wait t p w) p message) p) ≡ false
        → (x : List ℕ) → message_in setup (set_wait t p x) p message ≡ message_in setup (set_wait t p w) p message
    pub waits : is_live (state_of (message_in setup (set_wait t p w) p message) p) ≡ true
        → (wait_of (message_in setup (set_wait t p w) p message) p ≡ w)
        × ((x : List ℕ) → message_in setup (set_wait t p x) p message
        ≡ set_wait (message_in setup (set_wait t p w) p message) p x)
    pub within : p - 1 < length ((message_in setup (set_wait t p w) p message).speaker).waits

  rest_by : (t : Turn) (message w : List ℕ) (closed : Bool)
      → is_live (state_of (message_in setup t p message) p) ≡ not closed
      → ((x : List ℕ) → message_in setup (set_wait t p x) p message
      ≡ (if closed then message_in setup t p message else set_wait (message_in setup t p message) p x))
      → length ((message_in setup t p message).speaker).waits ≡ length (t.speaker).waits
      → p - 1 < length (t.speaker).waits
      → Rest t message w
  rest_by t message w true live same long within =
      let v = message_in setup t p message in
      let state : is_live (state_of (message_in setup (set_wait t p w) p message) p) ≡ false =
      ap (λ (u : Turn). is_live (state_of u p)) (same w) ∙ live in
      record {
        dead = λ e x. same x ∙ sym (same w);
        waits = λ e. let wrong : true ≡ false = sym e ∙ state in cc wrong;
        within = rw (same w, long) within;
      }
  rest_by t message w false live same long within =
      let v = message_in setup t p message in
      let there : p - 1 < length (v.speaker).waits = rw long within in
      let state : is_live (state_of (message_in setup (set_wait t p w) p message) p) ≡ true =
      ap (λ (u : Turn). is_live (state_of u p)) (same w) ∙ live in
      record {
        dead = λ e. let wrong : true ≡ false = sym state ∙ e in cc wrong;
        waits = λ e. (
          ap (λ (u : Turn). wait_of u p) (same w) ∙ wait_of-set_wait v p w there,
          λ x. same x ∙ sym (set_wait-set_wait v p w x) ∙ ap (λ (u : Turn). set_wait u p x) (sym (same w)),
        );
        within = rw (same w, length-set) there;
      }

  rest_of_message : (t : Turn) (message w : List ℕ) → is_live (state_of t p) ≡ true → p - 1 < length (t.speaker).waits
      → Rest t message w
  rest_of_message t message w live within =
      let l = message_in_leaves setup p message t live in
      rest_by t message w l.closed l.live l.same l.long within

  -- ---- enough turns

  -- no octets, no turn
  empty_still : (n : ℕ) (t : Turn) → length (wait_of t p) ≤ 0 → take_turns setup n t p ≡ t
  empty_still n t none = take_turns-still n t [] (nil_of (wait_of t p) none) refl refl

  -- more turns than octets change nothing
  enough : (n m : ℕ) (t : Turn) → p - 1 < length (t.speaker).waits → length (wait_of t p) ≤ n → length (wait_of t p) ≤ m
      → take_turns setup n t p ≡ take_turns setup m t p
  enough zero m t within short also = empty_still zero t short ∙ sym (empty_still m t short)
  enough (suc n) zero t within short also = empty_still (suc n) t also ∙ sym (empty_still zero t also)
  enough (suc n) (suc m) t within short also =
      let w = wait_of t p in
      elim (cases_Bool (is_live (state_of t p))) [
        | inr dead ↦ take_turns-dead (suc n) t dead ∙ sym (take_turns-dead (suc m) t dead)
        | inl live ↦ by_option (message_size w)
            (λ size. by_option (front_fault w)
            (λ fault. take_turns-still (suc n) t w refl size fault ∙ sym (take_turns-still (suc m) t w refl size fault))
            (λ f is. take_turns-fault n t w f live refl is ∙ sym (take_turns-fault m t w f live refl is)))
            (λ k size.
            let v = message_in setup (set_wait t p (drop k w)) p (take k w) in
            let r = rest_of_message t (take k w) (drop k w) live within in
            let bounds = message_size_is_size w k size in
            let some : 0 < k = bounds.0 in
            let left = length-drop k w in
            let middle : take_turns setup n v p ≡ take_turns setup m v p =
            elim (cases_Bool (is_live (state_of v p))) [
              | inr dead ↦ take_turns-dead n v dead ∙ sym (take_turns-dead m v dead)
              | inl up ↦
                  let there = ap (λ (x : List ℕ). length x) (r.waits up).0 in
                  enough n m v r.within (omega (arith, there, left, some, short))
                  (omega (arith, there, left, some, also))
            ] in
            take_turns-message n k t w live refl size ∙ middle ∙ sym (take_turns-message m k t w live refl size))
      ]

  -- ---- two pieces

  -- nothing is taken of the first piece alone
  joined_still : (n m : ℕ) (t : Turn) (b : List ℕ) → is_live (state_of t p) ≡ true → p - 1 < length (t.speaker).waits
      → message_size (wait_of t p) ≡ None → front_fault (wait_of t p) ≡ None → length (wait_of t p ++ b) ≤ m
      → take_turns setup m (set_wait t p (wait_of t p ++ b)) p ≡ octets_in setup (take_turns setup n t p) p b
  joined_still n m t b live within size fault also =
      let w = wait_of t p in
      let u = set_wait t p (w ++ b) in
      let read = ap (λ (x : List ℕ). length x) (wait_of-set_wait t p (w ++ b) within) in
      let there : p - 1 < length (u.speaker).waits = rw length-set within in
      enough m (length (w ++ b)) u there (omega (arith, read, also)) (omega (arith, read))
      ∙ sym (octets_in-live t b live)
      ∙ sym (ap (λ (x : Turn). octets_in setup x p b) (take_turns-still n t w refl size fault))

  -- what is taken of the first piece, and then of what is left and the second
  joined : (n m : ℕ) (t : Turn) (b : List ℕ) → is_live (state_of t p) ≡ true → p - 1 < length (t.speaker).waits
      → length (wait_of t p) ≤ n → length (wait_of t p ++ b) ≤ m
      → take_turns setup m (set_wait t p (wait_of t p ++ b)) p ≡ octets_in setup (take_turns setup n t p) p b
  joined zero m t b live within short also =
      let none = nil_of (wait_of t p) short in
      joined_still zero m t b live within (ap message_size none) (ap front_fault none) also
  joined (suc n) zero t b live within short also =
      let sum = length-append (wait_of t p) b in
      let none = nil_of (wait_of t p) (omega (arith, sum, also)) in
      joined_still (suc n) zero t b live within (ap message_size none) (ap front_fault none) also
  joined (suc n) (suc m) t b live within short also =
      let w = wait_of t p in
      let u = set_wait t p (w ++ b) in
      let read = wait_of-set_wait t p (w ++ b) within in
      by_option (message_size w)
      (λ size. by_option (front_fault w)
      (λ fault. joined_still (suc n) (suc m) t b live within size fault also)
      (λ f is.
      let r = refuse_ends setup p f t live in
      take_turns-fault m u (w ++ b) f live read (front_fault-append w b f is)
      ∙ r.1 (w ++ b)
      ∙ sym (octets_in-dead (refuse setup t p f) b r.0)
      ∙ sym (ap (λ (x : Turn). octets_in setup x p b) (take_turns-fault n t w f live refl is))))
      (λ k size.
      let message = take k w in
      let v = message_in setup (set_wait t p (drop k w)) p message in
      let r = rest_of_message t message (drop k w) live within in
      let bounds = message_size_is_size w k size in
      let some : 0 < k = bounds.0 in
      let fits : k ≤ length w = bounds.1 in
      let left = length-drop k w in
      let sum = length-append w b in
      let rest_sum = length-append (drop k w) b in
      let first : take_turns setup (suc m) u p
      ≡ take_turns setup m (message_in setup (set_wait t p (drop k w ++ b)) p message) p =
      take_turns-message m k u (w ++ b) live read (message_size_is_stable w b k size)
      ∙ ap (λ (x : Turn). take_turns setup m (message_in setup x p (take k (w ++ b))) p)
      (set_wait-set_wait t p (w ++ b) (drop k (w ++ b)))
      ∙ ap (λ (x : List ℕ). take_turns setup m (message_in setup (set_wait t p x) p (take k (w ++ b))) p)
      (drop-append-le k w b fits)
      ∙ ap (λ (x : List ℕ). take_turns setup m (message_in setup (set_wait t p (drop k w ++ b)) p x) p)
      (take-append-le k w b fits) in
      let last : octets_in setup (take_turns setup (suc n) t p) p b ≡ octets_in setup (take_turns setup n v p) p b =
      ap (λ (x : Turn). octets_in setup x p b) (take_turns-message n k t w live refl size) in
      let middle : take_turns setup m (message_in setup (set_wait t p (drop k w ++ b)) p message) p
      ≡ octets_in setup (take_turns setup n v p) p b =
      elim (cases_Bool (is_live (state_of v p))) [
        | inr dead ↦
            ap (λ (x : Turn). take_turns setup m x p) (r.dead dead (drop k w ++ b))
            ∙ take_turns-dead m v dead
            ∙ sym (octets_in-dead v b dead)
            ∙ sym (ap (λ (x : Turn). octets_in setup x p b) (take_turns-dead n v dead))
        | inl up ↦
            let q = r.waits up in
            let there = ap (λ (x : List ℕ). length x) q.0 in
            let both = ap (λ (x : List ℕ). length (x ++ b)) q.0 in
            ap (λ (x : Turn). take_turns setup m x p) (q.1 (drop k w ++ b))
            ∙ ap (λ (x : List ℕ). take_turns setup m (set_wait v p (x ++ b)) p) (sym q.0)
            ∙ joined n m v b up r.within (omega (arith, there, left, some, short))
            (omega (arith, both, left, some, sum, rest_sum, also, fits))
      ] in
      first ∙ middle ∙ sym last)

  -- a peer that is not configured has nothing that waits
  nothing_waits : (t : Turn) (b : List ℕ) → is_live (state_of t p) ≡ true → length (t.speaker).waits ≤ p - 1
      → octets_in setup t p b ≡ t
  nothing_waits t b live past =
      let whole = wait_of t p ++ b in
      let same : set_wait t p whole
      ≡ t = ap (λ (ws : List (List ℕ)). record t { speaker = record t.speaker { waits = ws } })
      (set_past (t.speaker).waits (p - 1) whole past) in
      octets_in-live t b live
      ∙ ap (λ (x : Turn). take_turns setup (length whole) x p) same
      ∙ take_turns-still (length whole) t [] (get_or_past (t.speaker).waits (p - 1) [] past) refl refl

  -- octets come in two pieces, within one event
  pub octets_in-append : (t : Turn) (a b : List ℕ)
      → octets_in setup t p (a ++ b) ≡ octets_in setup (octets_in setup t p a) p b
  octets_in-append t a b =
      let w = wait_of t p in
      elim (cases_Bool (is_live (state_of t p))) [
        | inr dead ↦
            octets_in-dead t (a ++ b) dead
            ∙ sym (octets_in-dead t b dead)
            ∙ sym (ap (λ (x : Turn). octets_in setup x p b) (octets_in-dead t a dead))
        | inl live ↦ elim (cases_Bool (nat_lt (p - 1) (length (t.speaker).waits))) [
          | inr over ↦
              let past = ltb-false (p - 1) (length (t.speaker).waits) over in
              nothing_waits t (a ++ b) live past
              ∙ sym (nothing_waits t b live past)
              ∙ sym (ap (λ (x : Turn). octets_in setup x p b) (nothing_waits t a live past))
          | inl test ↦
              let within = ltb-true (p - 1) (length (t.speaker).waits) test in
              let u = set_wait t p (w ++ a) in
              let read = wait_of-set_wait t p (w ++ a) within in
              let there : p - 1 < length (u.speaker).waits = rw length-set within in
              let short = ap (λ (x : List ℕ). length x) read in
              let both = ap (λ (x : List ℕ). length (x ++ b)) read in
              let assoc = append_assoc w a b in
              let all = ap (λ (x : List ℕ). length x) assoc in
              let whole : set_wait u p (wait_of u p ++ b) ≡ set_wait t p (w ++ (a ++ b)) =
              ap (λ (x : List ℕ). set_wait u p (x ++ b)) read
              ∙ set_wait-set_wait t p (w ++ a) ((w ++ a) ++ b)
              ∙ ap (set_wait t p) assoc in
              octets_in-live t (a ++ b) live
              ∙ ap (λ (x : Turn). take_turns setup (length (w ++ (a ++ b))) x p) (sym whole)
              ∙ joined (length (w ++ a)) (length (w ++ (a ++ b))) u b live there (omega (arith, short))
              (omega (arith, both, all))
              ∙ ap (λ (x : Turn). octets_in setup x p b) (sym (octets_in-live t a live))
        ]
      ]

-- the second piece is taken as at the beginning of an event
pub octets_in-pieces : (setup : Setup) (p : ℕ) (s : Speaker) (a b : List ℕ)
    → octets_in setup (before s) p (a ++ b)
    ≡ after (octets_in setup (before s) p a).outputs (octets_in setup (before s) p a).trace
    (octets_in setup (before (octets_in setup (before s) p a).speaker) p b)
octets_in-pieces setup p s a b =
    let v = octets_in setup (before s) p a in
    let begun : v ≡ after v.outputs v.trace (before v.speaker) =
    ap (λ (x : List Output). record { speaker = v.speaker; outputs = x; trace = v.trace }) (sym (append-nil v.outputs))
    ∙ ap (λ (x : Trace). record { speaker = v.speaker; outputs = v.outputs ++ []; trace = x })
    (sym (append-nil v.trace)) in
    octets_in-append setup p (before s) a b
    ∙ ap (λ (x : Turn). octets_in setup x p b) begun
    ∙ octets_in-after setup p b v.outputs v.trace (before v.speaker)

-- octets that come in two pieces do what they do in one
pub cutting_holds : cutting
unfolding event history turn
cutting_holds rule setup s p a b =
    let v = octets_in setup (before s) p a in
    let w = octets_in setup (before v.speaker) p b in
    ap (λ (x : Turn). record { speaker = x.speaker; outputs = x.outputs }) (octets_in-pieces setup p s a b)
    ∙ ap (λ (x : List Output). record { speaker = w.speaker; outputs = v.outputs ++ x }) (sym (append-nil w.outputs))

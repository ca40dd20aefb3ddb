-- What the front of a buffer becomes, and the flags.
use Rattle.std.proofs.Common.{◌≡◌, ◌<◌, ◌-◌, sym, ◌∙◌, ap, subst, ℕ, Bool, true, false, List}
use Rattle.std.proofs.Common.{[], ◌++◌, length, take, drop, Some, arith, replicate, Vec}
use Rattle.std.specs.List.{slice_set}
use Rattle.std.specs.declared.alloc.Global.{Global}
use Rattle.std.proofs.lemmas.List.{set-set, set-get_or, get_or-replicate, length-drop}
use Rattle.std.proofs.lemmas.List.{take-append-le, drop-append-le}
use Rattle.xb_wire.specs.Messages.{Notification, message_size, front_fault, message_kind, message_body}
use Rattle.xb_wire.proofs.MessageLemmas.{message_size_is_size, message_size_is_stable}
use Rattle.xb_wire.proofs.FaultLemmas.{message_size-fault, front_fault-append}
use Rattle.bgp_fsm.specs.Sessions.{is_live}
use Rattle.spk_model.specs.declared.host.Setup.{Setup}
use Rattle.spk_model.specs.Turning.{message_in, refuse}
use Rattle.spk_session.specs.Meaning.{Core, Does, HasPeer, IsReady, IsCalm, state_in, flag_of, kept}
use Rattle.spk_session.specs.Acting.{IsLeft, LeftBy}
use Rattle.spk_session.specs.Taking.{IsClosed, IsTaken}
use Rattle.spk_session.proofs.Dropping.{kept-calm, kept-set}
use Rattle.spk_session.proofs.TakeLemmas.{flagged, message_comes, fault_comes}

-- a flag that is cleared when none is set
pub still_calm : (n i : ℕ) → i < n → slice_set (replicate n false) i false ≡ replicate n false
still_calm n i h = ap (λ (d : Bool). slice_set (replicate n false) i d) (sym (get_or-replicate n i false false h))
    ∙ set-get_or (replicate n false) i false

-- a flag that was set and cleared again
pub up_and_down : (n i : ℕ) (fa fb fd : List Bool) → i < n → fa ≡ replicate n false → fb ≡ slice_set fa i true
    → fd ≡ slice_set fb i false → fd ≡ replicate n false
up_and_down n i fa fb fd h calm up down =
    down ∙ ap (λ (l : List Bool). slice_set l i false) up ∙ set-set fa i true false
    ∙ ap (λ (l : List Bool). slice_set l i false) calm ∙ still_calm n i h

pub only_down : (n i : ℕ) (fa fb fd : List Bool) → i < n → fa ≡ replicate n false → fb ≡ fa
    → fd ≡ slice_set fb i false → fd ≡ replicate n false
only_down n i fa fb fd h calm same down = down ∙ ap (λ (l : List Bool). slice_set l i false) (same ∙ calm)
    ∙ still_calm n i h

-- octets whose flag is set are gone
pub gone_same : (n i : ℕ) (fa fb fd : List Bool) (waits : List (List ℕ)) (x : List ℕ) → i < n → length fa ≡ n
    → fa ≡ replicate n false → fb ≡ slice_set fa i true → fd ≡ replicate n false
    → kept fb (slice_set waits i x) ≡ kept fd (slice_set waits i [])
gone_same n i fa fb fd waits x h long calm up after =
    let inside : i < length fa = omega (arith, h, long) in
    ap (λ (l : List Bool). kept l (slice_set waits i x)) up
    ∙ kept-set fa i (slice_set waits i x) inside
    ∙ ap (λ (l : List Bool). slice_set (kept l (slice_set waits i x)) i []) calm
    ∙ ap (λ (ws : List (List ℕ)). slice_set ws i []) (kept-calm n (slice_set waits i x))
    ∙ set-set waits i x []
    ∙ sym (kept-calm n (slice_set waits i []))
    ∙ ap (λ (l : List Bool). kept l (slice_set waits i [])) (sym after)

-- the number of sessions of a core after another
same_count : (a b : Core) → b.setup ≡ a.setup → IsReady a → IsReady b
    → length ((b.links).sessions).items ≡ length ((a.links).sessions).items
same_count a b setup one two =
    two.count ∙ ap (λ (s : Setup). length (s.config).peers) setup ∙ sym one.count

-- a core after another, with no flag set
pub ready_again : (a b : Core) (ds : Vec Bool Global) → b.setup ≡ a.setup → IsReady a → IsReady b
    → ds.items ≡ replicate (length ((a.links).sessions).items) false → IsCalm a.links → IsReady (flagged b ds)
ready_again a b ds setup first ready flags calm = record {
  even = record {
    few = (ready.even).few;
    rests = (ready.even).rests;
    flags = ap length (flags ∙ sym calm) ∙ (first.even).flags ∙ sym (same_count a b setup first ready);
    room = (ready.even).room;
  };
  count = ready.count;
}

pub calm_again : (a b : Core) (ds : Vec Bool Global) → b.setup ≡ a.setup → IsReady a → IsReady b
    → ds.items ≡ replicate (length ((a.links).sessions).items) false → IsCalm (flagged b ds).links
calm_again a b ds setup first ready flags =
    flags ∙ ap (λ (n : ℕ). replicate n false) (sym (same_count a b setup first ready))

-- the message at the front, by what the buffer says of it
pub does_front : (a b : Core) (p n kind : ℕ) (w body : List ℕ) → message_kind (take n w) ≡ kind
    → body ≡ message_body (take n w)
    → ((message : List ℕ) → message_kind message ≡ kind → message_body message ≡ body
    → Does (λ setup t. message_in setup t p message) a b)
    → Does (λ setup t. message_in setup t p (take n w)) a b
does_front a b p n kind w body kinds bodies does = does (take n w) kinds (sym bodies)

does_take : (a b : Core) (p n : ℕ) (w tail : List ℕ) → message_size w ≡ Some n
    → Does (λ setup t. message_in setup t p (take n w)) a b
    → Does (λ setup t. message_in setup t p (take n (w ++ tail))) a b
does_take a b p n w tail is d =
    let size = message_size_is_size w n is in
    subst (λ (m : List ℕ). Does (λ setup t. message_in setup t p m) a b) (sym (take-append-le n w tail size.1)) d

left_closed : (f : Bool) (p : ℕ) (a b : Core) → f ≡ true → LeftBy f p a.links b.links
    → ((b.links).dropped).items ≡ slice_set ((a.links).dropped).items (p - 1) true
left_closed true p a b e l = l
left_closed false p a b e l = cc

left_open : (f : Bool) (p : ℕ) (a b : Core) → f ≡ false → LeftBy f p a.links b.links
    → (((b.links).dropped).items ≡ ((a.links).dropped).items) × (is_live (state_in b.links p) ≡ true)
left_open true p a b e l = cc
left_open false p a b e l = l

-- a message that closed the peer
pub closed_by_message : (a b : Core) (ds : Vec Bool Global) (p n : ℕ) (w w' : List ℕ) → IsReady a → IsCalm a.links
    → HasPeer a.links p → is_live (state_in a.links p) ≡ true → message_size w ≡ Some n
    → Does (λ setup t. message_in setup t p (take n w)) a b → IsLeft p a.links b.links → flag_of b.links p ≡ true
    → ds.items ≡ slice_set ((b.links).dropped).items (p - 1) false → w' ≡ [] → IsClosed p w a w' (flagged b ds)
closed_by_message a b ds p n w w' ready calm peer live is d left flag down gone =
    let i : p - 1 < length ((a.links).sessions).items = omega (arith, peer.0, peer.1) in
    let up = left_closed (flag_of b.links p) p a b flag left in
    let after = up_and_down (length ((a.links).sessions).items) (p - 1) ((a.links).dropped).items
    ((b.links).dropped).items ds.items i calm up down in
    record {
      ready = ready_again a b ds d.setup ready d.ready after calm;
      calm = calm_again a b ds d.setup ready d.ready after;
      gone = gone;
      comes = λ tail.
          message_comes a b ds p n (w ++ tail) [] calm live (message_size_is_stable w tail n is)
          (does_take a b p n w tail is d)
          (λ waits. gone_same (length ((a.links).sessions).items) (p - 1) ((a.links).dropped).items
          ((b.links).dropped).items ds.items waits (drop n (w ++ tail)) i (ready.even).flags calm up after)
          (omega arith);
    }

-- a header that closed the peer
pub closed_by_fault : (a b : Core) (ds : Vec Bool Global) (p : ℕ) (f : Notification) (w w' : List ℕ) → IsReady a
    → IsCalm a.links → HasPeer a.links p → is_live (state_in a.links p) ≡ true → front_fault w ≡ Some f
    → Does (λ setup t. refuse setup t p f) a b → ((b.links).dropped).items ≡ slice_set ((a.links).dropped).items
    (p - 1) true → ds.items ≡ slice_set ((b.links).dropped).items (p - 1) false → w' ≡ []
    → IsClosed p w a w' (flagged b ds)
closed_by_fault a b ds p f w w' ready calm peer live is d up down gone =
    let i : p - 1 < length ((a.links).sessions).items = omega (arith, peer.0, peer.1) in
    let after = up_and_down (length ((a.links).sessions).items) (p - 1) ((a.links).dropped).items
    ((b.links).dropped).items ds.items i calm up down in
    record {
      ready = ready_again a b ds d.setup ready d.ready after calm;
      calm = calm_again a b ds d.setup ready d.ready after;
      gone = gone;
      comes = λ tail.
          let behind : front_fault (w ++ tail) ≡ Some f = front_fault-append w tail f is in
          fault_comes a b ds p f (w ++ tail) calm live (message_size-fault (w ++ tail) f behind) behind d
          (λ waits. gone_same (length ((a.links).sessions).items) (p - 1) ((a.links).dropped).items
          ((b.links).dropped).items ds.items waits (w ++ tail) i (ready.even).flags calm up after);
    }

-- a message after which the session lives on
pub open_by_message : (a b : Core) (ds : Vec Bool Global) (p n : ℕ) (w w' : List ℕ) → IsReady a → IsCalm a.links
    → HasPeer a.links p → is_live (state_in a.links p) ≡ true → message_size w ≡ Some n
    → Does (λ setup t. message_in setup t p (take n w)) a b → IsLeft p a.links b.links → flag_of b.links p ≡ false
    → ds.items ≡ slice_set ((b.links).dropped).items (p - 1) false → w' ≡ drop n w → IsTaken p w a w' (flagged b ds)
open_by_message a b ds p n w w' ready calm peer live is d left flag down rest =
    let i : p - 1 < length ((a.links).sessions).items = omega (arith, peer.0, peer.1) in
    let stays = left_open (flag_of b.links p) p a b flag left in
    let after = only_down (length ((a.links).sessions).items) (p - 1) ((a.links).dropped).items
    ((b.links).dropped).items ds.items i calm stays.0 down in
    let size = message_size_is_size w n is in
    let long : length w' ≡ length (drop n w) = ap length rest in
    record {
      open' = record {
        ready = ready_again a b ds d.setup ready d.ready after calm;
        calm = calm_again a b ds d.setup ready d.ready after;
        setup = d.setup;
        live = stays.1;
      };
      less = omega (arith, long, length-drop n w, size.0, size.1);
      comes = λ tail.
          let same : drop n (w ++ tail) ≡ w' ++ tail = drop-append-le n w tail size.1
          ∙ ap (λ (x : List ℕ). x ++ tail) (sym rest) in
          let as_long : length (drop n (w ++ tail)) ≡ length (w' ++ tail) = ap length same in
          message_comes a b ds p n (w ++ tail) (w' ++ tail) calm live (message_size_is_stable w tail n is)
          (does_take a b p n w tail is d)
          (λ waits. ap (λ (x : List ℕ). kept ((b.links).dropped).items (slice_set waits (p - 1) x)) same
          ∙ ap (λ (l : List Bool). kept l (slice_set waits (p - 1) (w' ++ tail))) (stays.0 ∙ calm ∙ sym after))
          (omega (arith, as_long));
    }

-- The two loops: over the messages in the buffer, and over the piece.
use Rattle.std.proofs.Common.{◌≡◌, ◌≤◌, ◌<◌, ◌-◌, ◌+◌, refl, sym, ◌∙◌, ap, subst, ℕ, Bool, true, false}
use Rattle.std.proofs.Common.{List, [], ◌∷◌, ◌++◌, length, take, drop, arith, min}
use Rattle.std.proofs.Math.Nat.{min-le_left}
use Rattle.std.proofs.lemmas.List.{drop-drop, take-append-drop, append_assoc, drop_all, append-nil, take_all}
use Rattle.std.proofs.lemmas.List.{length-drop}
use Rattle.bgp_fsm.specs.Sessions.{is_live}
use Rattle.spk_session.specs.Meaning.{Core, IsReady, IsCalm, state_in}
use Rattle.spk_session.specs.Taking.{Ends, Comes, IsDrained, IsOpen, IsClosed, IsStill, IsAll, AllBy, Receives}
use Rattle.spk_session.proofs.Dropping.{none_left}
use Rattle.spk_session.proofs.TakeLemmas.{ends_here, received}

-- what was to come at first is what is to come now
abbrev pub Came : ℕ → List ℕ → Core → List ℕ → Core → Type 0
Came p w a v b = (tail : List ℕ) → Comes p (w ++ tail) a (v ++ tail) b

pub open_here : (p : ℕ) (a : Core) → IsReady a → IsCalm a.links → is_live (state_in a.links p) ≡ true → IsOpen p a a
open_here p a ready calm live = record { ready = ready; calm = calm; setup = refl; live = live }

pub came_here : (p : ℕ) (w : List ℕ) (a : Core) → Came p w a w a
came_here p w a tail end last e = e

pub came_then : (p : ℕ) (w v u : List ℕ) (a b c : Core) → Came p w a v b → Came p v b u c → Came p w a u c
came_then p w v u a b c one two tail end last e = one tail end last (two tail end last e)

pub open_then : (p : ℕ) (a b c : Core) → IsOpen p a b → IsOpen p b c → IsOpen p a c
open_then p a b c one two = record {
  ready = two.ready;
  calm = two.calm;
  setup = two.setup
      ∙ one.setup;
  live = two.live;
}

pub all_still : (p : ℕ) (w v u : List ℕ) (a b c : Core) → IsOpen p a b → Came p w a v b → IsStill v b u c
    → IsAll p w a u c
all_still p w v u a b c o came s =
    subst (λ (x : Core). IsAll p w a u x) (sym s.core)
    (subst (λ (x : List ℕ). IsAll p w a x b) (sym s.same) (record { open' = o; drained = s.drained; comes = came }))

pub all_closed : (p : ℕ) (w v u : List ℕ) (a b c : Core) → Came p w a v b → IsClosed p v b u c → IsClosed p w a u c
all_closed p w v u a b c came k = record {
  ready = k.ready;
  calm = k.calm;
  gone = k.gone;
  comes = λ tail end last e. came tail end last (k.comes tail end last e);
}

empty_drained : (v : List ℕ) → length v ≤ 0 → IsDrained v
empty_drained [] h = none_left
empty_drained (x ∷ v) h = absurd (omega (arith, h))

pub all_spent : (p n : ℕ) (w v : List ℕ) (a b : Core) → IsOpen p a b → Came p w a v b → length v + n ≤ n
    → IsAll p w a v b
all_spent p n w v a b o came few = let none : length v ≤ 0 = omega (arith, few) in
    record { open' = o; drained = empty_drained v none; comes = came }

-- octets of the piece that were fed are in the buffer, and no longer after it
pub fed_on : (w x piece : List ℕ) (at r : ℕ) → x ≡ w ++ take r (drop at piece)
    → x ++ drop (at + r) piece ≡ w ++ drop at piece
fed_on w x piece at r e =
    ap (λ (l : List ℕ). l ++ drop (at + r) piece) e
    ∙ append_assoc w (take r (drop at piece)) (drop (at + r) piece)
    ∙ ap (λ (l : List ℕ). w ++ (take r (drop at piece) ++ l)) (sym (drop-drop r at piece))
    ∙ ap (λ (l : List ℕ). w ++ l) (take-append-drop r (drop at piece))

-- after a piece was fed and taken, the session lives on
pub piece_on : (p at r : ℕ) (first w x u piece : List ℕ) (a b c : Core)
    → Comes p (first ++ piece) a (w ++ drop at piece) b → x ≡ w ++ take r (drop at piece) → IsAll p x b u c
    → Comes p (first ++ piece) a (u ++ drop (at + r) piece) c
piece_on p at r first w x u piece a b c came is all end last e =
    came end last (subst (λ (l : List ℕ). Ends p l b end last) (fed_on w x piece at r is)
    (all.comes (drop (at + r) piece) end last e))

-- or the peer was closed
pub piece_closed : (p at r : ℕ) (first w x u piece : List ℕ) (a b c : Core) → IsCalm a.links
    → is_live (state_in a.links p) ≡ true → Comes p (first ++ piece) a (w ++ drop at piece) b
    → x ≡ w ++ take r (drop at piece) → IsClosed p x b u c → Receives p piece first a u c
piece_closed p at r first w x u piece a b c calm live came is k =
    let e : Ends p (first ++ piece) a [] c = came [] c
    (subst (λ (l : List ℕ). Ends p l b [] c) (fed_on w x piece at r is)
    (k.comes (drop (at + r) piece) [] c (ends_here c p [] k.ready k.calm refl refl))) in
    subst (λ (l : List ℕ). Receives p piece first a l c) (sym k.gone)
    (received a p first piece [] c calm live none_left e)

-- the whole piece came
pub piece_done : (p at : ℕ) (first w piece : List ℕ) (a b : Core) → IsCalm a.links
    → is_live (state_in a.links p) ≡ true → Comes p (first ++ piece) a (w ++ drop at piece) b → length piece ≤ at
    → IsOpen p a b → IsDrained w → Receives p piece first a w b
piece_done p at first w piece a b calm live came far o drained =
    let rest : w ++ drop at piece ≡ w = ap (λ (l : List ℕ). w ++ l) (drop_all at piece far) ∙ append-nil w in
    let e : Ends p (first ++ piece) a w b = came w b
    (subst (λ (l : List ℕ). Ends p l b w b) (sym rest)
    (ends_here b p w o.ready o.calm drained.none drained.good)) in
    received a p first piece w b calm live drained e

-- a piece of which some is left is fed by at least an octet, and by no more than there is
pub fed_some : (at i size room r : ℕ) → i ≤ at → at ≤ size → i < size → 1 ≤ room → r ≡ min (size - at) room
    → i + 1 ≤ at + r
fed_some at i size room r far inside left some is =
    omega (arith, far, inside, left, some, is)

pub fed_most : (at size room r : ℕ) → at ≤ size → r ≡ min (size - at) room → at + r ≤ size
fed_most at size room r inside is = let a : min (size - at) room ≤ size - at = min-le_left (size - at) room in
    omega (arith, inside, is, a)

pub by_closed : (b : Bool) (p : ℕ) (w : List ℕ) (a : Core) (v : List ℕ) (c : Core) → b ≡ false → AllBy b p w a v c
    → IsClosed p w a v c
by_closed true p w a v c e k = cc
by_closed false p w a v c e k = k

pub by_all : (b : Bool) (p : ℕ) (w : List ℕ) (a : Core) (v : List ℕ) (c : Core) → b ≡ true → AllBy b p w a v c
    → IsAll p w a v c
by_all true p w a v c e k = k
by_all false p w a v c e k = cc

-- a slice from a place to the end
pub to_end : (at : ℕ) (piece : List ℕ) → take (length piece - at) (drop at piece) ≡ drop at piece
to_end at piece = let long : length (drop at piece) ≡ length piece - at = length-drop at piece in
    take_all (length piece - at) (drop at piece) (omega (arith, long))

-- Lemmas on a text that is written over octets of a slice part after part, from an offset on.
use Rattle.std.proofs.Common.{◌≡◌, refl, sym, ap, ◌∙◌, ℕ, ◌+◌, ◌≤◌, List, [], ◌++◌, length, take, drop, append_assoc}
use Rattle.std.proofs.Common.{arith}
use Rattle.std.proofs.lemmas.List.{length-append, append-nil, take_at, length-take-le, drop-drop, take-append-drop}
use Rattle.std.proofs.Math.Seq.{drop-append-add}

-- the octets with a text in place of those from an offset on
abbrev pub overwritten : ℕ → List ℕ → List ℕ → List ℕ
overwritten at text s = take at s ++ text ++ drop (at + length text) s

overwritten-nil : (at : ℕ) (s : List ℕ) → overwritten at [] s ≡ s
overwritten-nil at s =
    ap (λ t. t ++ drop (at + 0) s) (append-nil (take at s)) ∙ ap (λ n. take at s ++ drop n s) (let e : at + 0 ≡ at = omega arith in e) ∙ take-append-drop at s

-- a text, and then another after it
overwritten-overwritten : (at n : ℕ) (a b s : List ℕ) → n ≡ at + length a → n + length b ≤ length s → overwritten n b (overwritten at a s) ≡ overwritten at (a ++ b) s
overwritten-overwritten at n a b s here fits =
    let front = take at s in
    let rest = drop (at + length a) s in
    let before : length front ≡ at = length-take-le at s (omega (arith, here, fits)) in
    let joined : length (front ++ a) ≡ n = length-append front a ∙ omega (arith, before, here) in
    let end : n + length b ≡ length (front ++ a) + length b = omega (arith, joined) in
    let dropped : drop (n + length b) (overwritten at a s) ≡ drop (at + length (a ++ b)) s =
    ap (λ m. drop m (overwritten at a s)) end
    ∙ drop-append-add (front ++ a) rest (length b)
    ∙ drop-drop (length b) (at + length a) s
    ∙ ap (λ m. drop m s) (let e : at + length a + length b ≡ at + length (a ++ b) = omega (arith, length-append a b) in e) in
    ap (λ t. t ++ b ++ drop (n + length b) (overwritten at a s)) (take_at (front ++ a) rest n joined)
    ∙ ap (λ t. front ++ a ++ b ++ t) dropped
    ∙ ap (λ t. t ++ drop (at + length (a ++ b)) s) (append_assoc front a b)

-- a text that is written in two parts
pub overwritten-joined : (at n : ℕ) (a b text s first now : List ℕ) → first ≡ overwritten at a s → now ≡ overwritten n b first → n ≡ at + length a → n + length b ≤ length s → a ++ b ≡ text
    → now ≡ overwritten at text s
overwritten-joined at n a b text s first now one two here fits joined =
    two ∙ ap (overwritten n b) one ∙ overwritten-overwritten at n a b s here fits ∙ ap (λ t. overwritten at t s) joined

-- from the offset `start` on, a text is written up to the offset `at`, and the rest of it is to come
pub record IsWriting (start : ℕ) (text old now : List ℕ) (at : ℕ) (coming : List ℕ) : Type 0 where
  pub done : List ℕ
  pub joined : done ++ coming ≡ text
  pub here : at ≡ start + length done
  pub written : now ≡ overwritten start done old
  pub room : start + length text ≤ length old

pub IsWriting-start : (start : ℕ) (text old : List ℕ) → start + length text ≤ length old → IsWriting start text old old start text
IsWriting-start start text old room = record { done = []; joined = refl; here = omega arith; written = sym (overwritten-nil start old); room = room }

-- the next part fits
pub IsWriting-fits : (start : ℕ) (text old now : List ℕ) (at : ℕ) (coming part more : List ℕ) → IsWriting start text old now at coming → coming ≡ part ++ more
    → at + length part ≤ length old
IsWriting-fits start text old now at coming part more w e =
    let whole = ap length w.joined in
    let parts = ap length e in
    omega (arith, whole, parts, length-append w.done coming, length-append part more, w.here, w.room)

-- the next part is written
pub IsWriting-more : (start : ℕ) (text old now after : List ℕ) (at next : ℕ) (coming part more : List ℕ) → IsWriting start text old now at coming → coming ≡ part ++ more
    → after ≡ overwritten at part now → next ≡ at + length part → IsWriting start text old after next more
IsWriting-more start text old now after at next coming part more w e written end = record {
  done = w.done ++ part;
  joined = append_assoc w.done part more ∙ ap (λ t. w.done ++ t) (sym e) ∙ w.joined;
  here = omega (arith, end, w.here, length-append w.done part);
  written = written ∙ ap (overwritten at part) w.written ∙ overwritten-overwritten start at w.done part old w.here (IsWriting-fits start text old now at coming part more w e);
  room = w.room;
}

-- What is packed after one more prefix, and how long its message is.
use Rattle.std.proofs.Common.{◌≡◌, refl, sym, ap, ◌∙◌, ℕ, ◌+◌, ◌-◌, ◌≤◌, Bool, true, false, List, [], ◌∷◌, ◌++◌, length}
use Rattle.std.proofs.Common.{take, drop, arith, add-zero}
use Rattle.std.specs.Prelude.{slice_index, slice_range, replicate}
use Rattle.std.proofs.lemmas.List.{length-append, append_assoc, append-nil, take_at, drop_at}
use Rattle.xb_words.specs.Octets.{two_octets}
use Rattle.xb_values.specs.Buffers.{Buffer}
use Rattle.bgp_write.specs.Written.{Replaces}
use Rattle.xb_wire.specs.Messages.{IsMessage}
use Rattle.bgp_write.proofs.MessageLemmas.{update_is_message, is_message_along}
use Rattle.bgp_write.specs.Packings.{packed_update, sealed, IsPacking, packed_in, packed_message, front_in, section_in}
use Rattle.bgp_write.specs.Packings.{prefixes_in, tail_of, header_with, sized}

-- a list without the tail with which it ends
take-before_tail : (s a t : List ℕ) → s ≡ a ++ t → take (length s - length t) s ≡ a
take-before_tail s a t e = rw e (take_at a t (length (a ++ t) - length t) (omega (arith, length-append a t)))

-- a part of a list, by the lengths of what is before it and of itself
pub slice_range-part : (s f p t : List ℕ) (start stop : ℕ) → s ≡ f ++ p ++ t → start ≡ length f → stop ≡ length f + length p → slice_range s start stop ≡ p
slice_range-part s f p t start stop e from to =
    ap (λ r. take (stop - start) (drop start r)) (e ∙ append_assoc f p t)
    ∙ ap (take (stop - start)) (drop_at f (p ++ t) start (sym from))
    ∙ take_at p t (stop - start) (omega (arith, from, to))

-- the part between a front and a tail
slice_range-middle : (s f p t : List ℕ) (start : ℕ) → s ≡ f ++ p ++ t → start ≡ length f → slice_range s start (length s - length t) ≡ p
slice_range-middle s f p t start e place =
    let size : length s ≡ length f + length p + length t = rw e (omega (arith, length-append (f ++ p) t, length-append f p)) in
    slice_range-part s f p t start (length s - length t) e place (omega (arith, size))

-- a section is read again, whatever follows it
slice_range-section : (a b : ℕ) (s q : List ℕ) (start : ℕ) → start ≡ 23 + length s → slice_range (header_with a b 0 0 ++ sized s ++ q ++ []) 23 start ≡ s
slice_range-section a b s q start place =
    ap (λ r. take (start - 23) r) (append_assoc s q []) ∙ take_at s (q ++ []) (start - 23) (omega (arith, place))

-- prefixes change nothing before them
front_in-front : (w : Bool) (start : ℕ) (s q : List ℕ) → start ≡ length (front_in w start s) → front_in w start (front_in w start s ++ q ++ tail_of w) ≡ front_in w start s
front_in-front true start s q place = refl
front_in-front false start s q place =
    let section = slice_range s 23 start in
    ap (λ x. header_with (slice_index s 16) (slice_index s 17) 0 0 ++ sized x) (slice_range-section (slice_index s 16) (slice_index s 17) section q start (omega (arith, place)))

section_in-front : (w : Bool) (start : ℕ) (s q : List ℕ) → start ≡ length (front_in w start s) → section_in w start (front_in w start s ++ q ++ tail_of w) ≡ section_in w start s
section_in-front true start s q place = refl
section_in-front false start s q place =
    slice_range-section (slice_index s 16) (slice_index s 17) (slice_range s 23 start) q start (omega (arith, place))

-- with octets before the tail
abbrev pub grown : Bool → List ℕ → List ℕ → List ℕ
grown w s x = take (length s - length (tail_of w)) s ++ x ++ tail_of w

grown-parts : (w : Bool) (start : ℕ) (out : Buffer) (x : List ℕ) → IsPacking w start out → grown w out.octets x ≡ front_in w start out.octets ++ (prefixes_in w start out.octets ++ x) ++ tail_of w
grown-parts w start out x is =
    let f = front_in w start out.octets in
    let p = prefixes_in w start out.octets in
    ap (λ r. r ++ x ++ tail_of w) (take-before_tail out.octets (f ++ p) (tail_of w) is.whole) ∙ ap (λ r. r ++ tail_of w) (append_assoc f p x)

-- what is packed after octets of prefixes were inserted
pub packed_in_grown : (w : Bool) (start : ℕ) (out : Buffer) (x new : List ℕ) → IsPacking w start out → new ≡ grown w out.octets x
    → packed_in w start new ≡ record (packed_in w start out.octets) { prefixes = prefixes_in w start out.octets ++ x }
packed_in_grown w start out x new is e =
    let f = front_in w start out.octets in
    let q = prefixes_in w start out.octets ++ x in
    let now = e ∙ grown-parts w start out x is in
    rw (slice_range-middle new f q (tail_of w) start now is.place, ap (λ r. section_in w start r) now ∙ section_in-front w start out.octets q is.place) refl

-- a buffer with them is one in which an UPDATE is packed
pub is_grown : (w : Bool) (start : ℕ) (out new : Buffer) (x : List ℕ) → IsPacking w start out → Replaces out new (grown w out.octets x) → length out.octets + length x ≤ 4096 → IsPacking w start new
is_grown w start out new x is e fits =
    let f = front_in w start out.octets in
    let p = prefixes_in w start out.octets in
    let t = tail_of w in
    let octets : new.octets ≡ grown w out.octets x = ap (λ (b : Buffer). b.octets) e in
    let capacity : new.capacity ≡ out.capacity = ap (λ (b : Buffer). b.capacity) e in
    let now = octets ∙ grown-parts w start out x is in
    let front : front_in w start new.octets ≡ f = ap (λ r. front_in w start r) now ∙ front_in-front w start out.octets (p ++ x) is.place in
    let before : length out.octets ≡ length (f ++ p ++ t) = ap length is.whole in
    let after : length new.octets ≡ length (f ++ (p ++ x) ++ t) = ap length now in
    record {
      room = omega (arith, capacity, is.room);
      short = omega (arith, before, after, fits, length-append (f ++ p) t, length-append f p, length-append (f ++ (p ++ x)) t, length-append f (p ++ x), length-append p x);
      place = is.place ∙ ap length (sym front);
      whole = now ∙ rw (front, slice_range-middle new.octets f (p ++ x) t start now is.place) refl;
    }

-- the length of the message after octets of prefixes were inserted
pub length_grown : (w : Bool) (start : ℕ) (out : Buffer) (x : List ℕ) → IsPacking w start out
    → length (packed_message (record (packed_in w start out.octets) { prefixes = prefixes_in w start out.octets ++ x })) ≡ length out.octets + length x
length_grown true start out x is =
    let p = prefixes_in true start out.octets in
    let q = p ++ x in
    let none = two_octets 0 in
    omega (arith, ap length is.whole, length-append p (0 ∷ 0 ∷ []), length-append p x, length-append q none, length-append (q ++ none) [], length-append (q ++ none ++ []) [])
length_grown false start out x is =
    let s = slice_range out.octets 23 start in
    let p = prefixes_in false start out.octets in
    omega (arith, ap length is.whole, length-append (s ++ p) [], length-append s p, length-append s (p ++ x), length-append p x)

-- what is so after octets of prefixes were inserted
pub ruleset insert_rules = (packed_in_grown, is_grown, length_grown)

-- an UPDATE by its two lengths and the octets after them
abbrev update_by : ℕ → ℕ → List ℕ → List ℕ
update_by size first rest = replicate 16 255 ++ two_octets size ++ 2 ∷ [] ++ two_octets first ++ rest

-- with the lengths written, it is the message of what is packed
pub sealed-packed_message : (w : Bool) (start : ℕ) (out : Buffer) → IsPacking w start out → sealed w out.octets ≡ packed_message (packed_in w start out.octets)
sealed-packed_message true start out is =
    let o = front_in true start out.octets ++ prefixes_in true start out.octets ++ tail_of true in
    let p = prefixes_in true start out.octets in
    let none = two_octets 0 in
    let size : length o ≡ 23 + length p = omega (arith, length-append p none) in
    let body = two_octets (length p) ++ p ++ none ++ [] ++ [] in
    let all : length body ≡ 4 + length p = omega (arith, length-append p none, length-append (p ++ none) [], length-append (p ++ none ++ []) []) in
    let whole : length o ≡ 19 + length body = omega (arith, size, all) in
    let first : length o - 23 ≡ length p = omega (arith, size) in
    ap (λ r. sealed true r) is.whole
    ∙ ap (λ n. update_by n (length o - 23) (p ++ none)) whole
    ∙ ap (λ n. update_by (19 + length body) n (p ++ none)) first
    ∙ ap (λ r. update_by (19 + length body) (length p) r) (sym (append-nil (p ++ none ++ []) ∙ append-nil (p ++ none)))
sealed-packed_message false start out is =
    let o = front_in false start out.octets ++ prefixes_in false start out.octets ++ tail_of false in
    let s = slice_range out.octets 23 start in
    let p = prefixes_in false start out.octets in
    let body = two_octets 0 ++ [] ++ two_octets (length s) ++ s ++ p in
    let whole : length o ≡ 19 + length body = omega (arith, length-append (s ++ p) []) in
    ap (λ r. sealed false r) is.whole
    ∙ ap (λ n. update_by n 0 (two_octets (length s) ++ (s ++ p ++ []))) whole
    ∙ ap (λ r. update_by (19 + length body) 0 (two_octets (length s) ++ r)) (append-nil (s ++ p))

length-packed_in : (w : Bool) (start : ℕ) (out : Buffer) → IsPacking w start out → length (packed_message (packed_in w start out.octets)) ≡ length out.octets
length-packed_in w start out is =
    ap (λ p. length (packed_message (record (packed_in w start out.octets) { prefixes = p }))) (sym (append-nil (prefixes_in w start out.octets)))
    ∙ length_grown w start out [] is
    ∙ add-zero (length out.octets)

-- with the lengths written, it is a message
pub sealed_is_message : (w : Bool) (start : ℕ) (out : Buffer) → IsPacking w start out → IsMessage (sealed w out.octets)
sealed_is_message w start out is =
    let short : length (packed_message (packed_in w start out.octets)) ≤ 4096 = omega (arith, length-packed_in w start out is, is.short) in
    is_message_along (sealed w out.octets) (packed_message (packed_in w start out.octets)) (sealed-packed_message w start out is) (update_is_message (packed_update (packed_in w start out.octets)) short)

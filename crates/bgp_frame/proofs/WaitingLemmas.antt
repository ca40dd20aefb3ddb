-- What is kept when the first message is removed.
use Rattle.std.proofs.Common.{◌≡◌, sym, ap, ◌∙◌, ℕ, ◌+◌, ◌-◌, ◌≤◌, List, length, take, drop, Some, arith}
use Rattle.std.proofs.lemmas.List.{length-drop, drop-drop, drop-take}
use Rattle.std.specs.Prelude.{slice_range}
use Rattle.xb_wire.specs.Messages.{message_size, message_body}
use Rattle.xb_words.proofs.ListLemmas.{length-slice_range}
use Rattle.xb_wire.proofs.MessageLemmas.{message_size_is_size, HasMessageLength-size}
use Rattle.bgp_frame.specs.Waiting.{Waiting, IsKept}

-- what waits, and the last body
abbrev pub waiting : List ℕ → List ℕ → Waiting
waiting waits body = record { waits = waits; body = body }

-- the buffer is sound after its first message was removed
pub kept_next : (octets : List ℕ) (body start capacity len : ℕ) → IsKept octets body start capacity → message_size (drop start octets) ≡ Some len → IsKept octets (start + 19) (start + len) capacity
kept_next octets body start capacity len kept e =
    let bounds = HasMessageLength-size (drop start octets) len e in
    let size = message_size_is_size (drop start octets) len e in
    let left = length-drop start octets in
    record {
      order = omega (arith, bounds.header);
      inside = omega (arith, size.1, left, kept.inside);
      short = omega (arith, bounds.most);
      few = omega (arith, kept.few);
      fits = kept.fits;
      room = kept.room;
    }

-- what waits and the last body after the first message was removed
pub waiting_next : (octets : List ℕ) (start len : ℕ) → message_size (drop start octets) ≡ Some len
    → waiting (drop (start + len) octets) (slice_range octets (start + 19) (start + len)) ≡ waiting (drop len (drop start octets)) (message_body (take len (drop start octets)))
waiting_next octets start len e =
    let bounds = HasMessageLength-size (drop start octets) len e in
    let rest : len ≡ 19 + (len - 19) = omega (arith, bounds.header) in
    let size : (start + len) - (start + 19) ≡ len - 19 = omega arith in
    let body : slice_range octets (start + 19) (start + len) ≡ drop 19 (take len (drop start octets)) =
    ap (λ n. take n (drop (start + 19) octets)) size
    ∙ ap (take (len - 19)) (sym (drop-drop 19 start octets))
    ∙ sym (drop-take 19 (len - 19) (drop start octets))
    ∙ ap (λ n. drop 19 (take n (drop start octets))) (sym rest) in
    ap (λ w. waiting w (slice_range octets (start + 19) (start + len))) (sym (drop-drop len start octets)) ∙ ap (waiting (drop len (drop start octets))) body

-- the length of a message that was removed, by its body
pub length-removed : (octets : List ℕ) (start len : ℕ) → message_size (drop start octets) ≡ Some len → len ≡ 19 + length (slice_range octets (start + 19) (start + len))
length-removed octets start len e =
    let bounds = HasMessageLength-size (drop start octets) len e in
    let size = message_size_is_size (drop start octets) len e in
    let inside : start + len ≤ length octets = omega (arith, size.0, size.1, length-drop start octets) in
    omega (arith, bounds.header, length-slice_range octets (start + 19) (start + len) inside)

-- Laws of the stream of messages.
use Rattle.std.proofs.Common.{◌≡◌, refl, sym, ap, ◌∙◌, inl, inr, ℕ, ◌≤◌, Bool, true, false, cond, List, [], ◌∷◌, ◌++◌}
use Rattle.std.proofs.Common.{length, take, drop, Option, Some, None, arith, unwrap_or, nat_lt}
use Rattle.std.proofs.lemmas.List.{length-append, take-append-le, drop-append-le, length-drop, length-take-le}
use Rattle.std.proofs.lemmas.List.{take-append-drop, get_or_append_left}
use Rattle.std.proofs.lemmas.Bool.{ltb-false, le-ltb, or_parts, eqb-false, eqb-true, cases_Bool}
use Rattle.std.specs.Prelude.{◌||◌, ◌==◌, ◌&&◌, not, slice_index, slice_range, if◌then◌else◌}
use Rattle.std.specs.Int.{w16, from_be_bytes}
use Rattle.xb_words.specs.Octets.{all_are}
use Rattle.xb_words.specs.Cut.{IsSize, IsStable, IsLocal}
use Rattle.xb_wire.specs.declared.numbers.TheConstants.{MARKER, HEADER, MAX_MESSAGE, KEEPALIVE, MESSAGE_HEADER_ERROR}
use Rattle.xb_wire.specs.declared.numbers.TheConstants.{CONNECTION_NOT_SYNCHRONIZED, BAD_MESSAGE_LENGTH}
use Rattle.xb_wire.specs.declared.numbers.TheConstants.{BAD_MESSAGE_TYPE}
use Rattle.xb_wire.specs.Messages.{Notification, notification, message_size, header_fault, length_error, type_error}
use Rattle.xb_wire.specs.Messages.{message_length, message_kind, is_bad_length, HasMessageLength}

-- a header's fault by the octets that it depends on
abbrev header_fault_by : List ℕ → ℕ → ℕ → ℕ → List ℕ → Option Notification
header_fault_by marker a b kind written =
    let n = from_be_bytes w16 (a ∷ b ∷ []) in
    if not (all_are 255 marker) then Some (notification MESSAGE_HEADER_ERROR CONNECTION_NOT_SYNCHRONIZED [])
    else if nat_lt n HEADER || nat_lt MAX_MESSAGE n then Some
    (notification MESSAGE_HEADER_ERROR BAD_MESSAGE_LENGTH written)
    else if kind == 0 || nat_lt KEEPALIVE kind then Some
    (notification MESSAGE_HEADER_ERROR BAD_MESSAGE_TYPE (kind ∷ []))
    else if is_bad_length kind n then Some (notification MESSAGE_HEADER_ERROR BAD_MESSAGE_LENGTH written)
    else None

by_parts : (s : List ℕ)
    → header_fault s ≡ header_fault_by (take 16 s) (slice_index s 16) (slice_index s 17) (slice_index s 18)
    (slice_range s 16 18)
by_parts s = refl

-- what follows a header makes no difference to its fault
pub header_fault-append : (s t : List ℕ) → 19 ≤ length s → header_fault (s ++ t) ≡ header_fault s
header_fault-append s t h =
    let r = s ++ t in
    let m : take 16 r ≡ take 16 s = take-append-le 16 s t (omega (arith, h)) in
    let a : slice_index r 16 ≡ slice_index s 16 = get_or_append_left s t 0 16 (omega (arith, h)) in
    let b : slice_index r 17 ≡ slice_index s 17 = get_or_append_left s t 0 17 (omega (arith, h)) in
    let k : slice_index r 18 ≡ slice_index s 18 = get_or_append_left s t 0 18 (omega (arith, h)) in
    let d : slice_range r 16 18 ≡ slice_range s 16 18 =
    ap (take 2) (drop-append-le 16 s t (omega (arith, h))) ∙ take-append-le 2 (drop 16 s) t
    (omega (arith, h, length-drop 16 s)) in
    by_parts r
    ∙ ap (λ x. header_fault_by x (slice_index r 16) (slice_index r 17) (slice_index r 18) (slice_range r 16 18)) m
    ∙ ap (λ x. header_fault_by (take 16 s) x (slice_index r 17) (slice_index r 18) (slice_range r 16 18)) a
    ∙ ap (λ x. header_fault_by (take 16 s) (slice_index s 16) x (slice_index r 18) (slice_range r 16 18)) b
    ∙ ap (λ x. header_fault_by (take 16 s) (slice_index s 16) (slice_index s 17) x (slice_range r 16 18)) k
    ∙ ap (λ x. header_fault_by (take 16 s) (slice_index s 16) (slice_index s 17) (slice_index s 18) x) d
    ∙ sym (by_parts s)

-- nor to its length field
message_length-append : (s t : List ℕ) → 19 ≤ length s → message_length (s ++ t) ≡ message_length s
message_length-append s t h =
    ap (λ x. from_be_bytes w16 (x ∷ slice_index (s ++ t) 17 ∷ [])) (get_or_append_left s t 0 16 (omega (arith, h)))
    ∙ ap (λ x. from_be_bytes w16 (slice_index s 16 ∷ x ∷ [])) (get_or_append_left s t 0 17 (omega (arith, h)))

-- a size is Some only if the three tests pass
pub tests_passed : (b : Bool) (o : Option Notification) (c : Bool) (m n : ℕ)
    → cond b None (elim o [ Some f ↦ None | None ↦ cond c None (Some m) ]) ≡ Some n
    → (b ≡ false) × (o ≡ None) × (c ≡ false) × (m ≡ n)
tests_passed true o c m n e = cc
tests_passed false (Some f) c m n e = cc
tests_passed false None true m n e = cc
tests_passed false None false m n e = (refl, refl, refl, ap (λ x. unwrap_or x 0) e)

-- and if they pass
pub size_if_passed : (b : Bool) (o : Option Notification) (c : Bool) (m n : ℕ) → b ≡ false → o ≡ None → c ≡ false
    → m ≡ n → cond b None (elim o [ Some f ↦ None | None ↦ cond c None (Some m) ]) ≡ Some n
size_if_passed true o c m n b e d k = cc
size_if_passed false (Some f) c m n b e d k = cc
size_if_passed false None true m n b e d k = cc
size_if_passed false None false m n b e d k = ap (λ x. Some x) k

-- a header without a fault passes all four tests
pub record Passes (s : List ℕ) : Type 0 where
  pub short : nat_lt (message_length s) HEADER ≡ false
  pub long : nat_lt MAX_MESSAGE (message_length s) ≡ false
  pub no_kind : (message_kind s == 0) ≡ false
  pub other_kind : nat_lt KEEPALIVE (message_kind s) ≡ false
  pub length : is_bad_length (message_kind s) (message_length s) ≡ false

four_tests : (a b c d : Bool) (x y z w : Notification)
    → cond a (Some x) (cond b (Some y) (cond c (Some z) (cond d (Some w) None))) ≡ None
    → (b ≡ false) × (c ≡ false) × (d ≡ false)
four_tests true b c d x y z w e = cc
four_tests false true c d x y z w e = cc
four_tests false false true d x y z w e = cc
four_tests false false false true x y z w e = cc
four_tests false false false false x y z w e = (refl, refl, refl)

header_fault-none : (s : List ℕ) → header_fault s ≡ None → Passes s
header_fault-none s e =
    let n = message_length s in
    let k = message_kind s in
    let t = four_tests (not (all_are 255 (take MARKER s))) (nat_lt n HEADER || nat_lt MAX_MESSAGE n)
    (k == 0 || nat_lt KEEPALIVE k) (is_bad_length k n)
    (notification MESSAGE_HEADER_ERROR CONNECTION_NOT_SYNCHRONIZED []) (length_error s)
    (type_error s) (length_error s) e in
    let lengths = or_parts (nat_lt n HEADER) (nat_lt MAX_MESSAGE n) t.0 in
    let kinds = or_parts (k == 0) (nat_lt KEEPALIVE k) t.1 in
    record { short = lengths.0; long = lengths.1; no_kind = kinds.0; other_kind = kinds.1; length = t.2 }

-- the least length of each type, by the test of lengths
least_open : (k n : ℕ) → is_bad_length k n ≡ false → k ≡ 1 → 29 ≤ n
least_open k n e is =
    elim (cases_Bool (nat_lt n 29)) [
      | inl short ↦ let wrong : true ≡ false = rw (is, short) at e in cc wrong
      | inr enough ↦ ltb-false n 29 enough
    ]

least_update : (k n : ℕ) → is_bad_length k n ≡ false → k ≡ 2 → 23 ≤ n
least_update k n e is =
    elim (cases_Bool (nat_lt n 23)) [
      | inl short ↦ let wrong : true ≡ false = rw (is, short) at e in cc wrong
      | inr enough ↦ ltb-false n 23 enough
    ]

least_notification : (k n : ℕ) → is_bad_length k n ≡ false → k ≡ 3 → 21 ≤ n
least_notification k n e is =
    elim (cases_Bool (nat_lt n 21)) [
      | inl short ↦ let wrong : true ≡ false = rw (is, short) at e in cc wrong
      | inr enough ↦ ltb-false n 21 enough
    ]

keepalive_length : (k n : ℕ) → is_bad_length k n ≡ false → k ≡ 4 → n ≡ 19
keepalive_length k n e is =
    elim (cases_Bool (n == 19)) [
      | inl same ↦ eqb-true n 19 same
      | inr other ↦ let wrong : true ≡ false = rw (is, other) at e in cc wrong
    ]

-- the length and the type of a header without a fault fit each other
HasMessageLength-header : (s : List ℕ) → header_fault s ≡ None → HasMessageLength (message_kind s) (message_length s)
HasMessageLength-header s e =
    let p = header_fault-none s e in
    let k = message_kind s in
    let n = message_length s in
    let some : 1 ≤ k = omega (arith, eqb-false k 0 p.no_kind) in
    record {
      header = ltb-false n 19 p.short;
      most = ltb-false 4096 n p.long;
      first_kind = some;
      last_kind = ltb-false 4 k p.other_kind;
      least_open = least_open k n p.length;
      least_update = least_update k n p.length;
      least_notification = least_notification k n p.length;
      keepalive = keepalive_length k n p.length;
    }

-- so do the length and the type of a whole message at the front
pub HasMessageLength-size : (s : List ℕ) (n : ℕ) → message_size s ≡ Some n → HasMessageLength (message_kind s) n
HasMessageLength-size s n e =
    let p = tests_passed (nat_lt (length s) 19) (header_fault s) (nat_lt (length s) (message_length s))
    (message_length s) n e in
    rw (← p.3) (HasMessageLength-header s p.1)

-- a message has at least its header, and does not pass the end
pub message_size_is_size : IsSize message_size
message_size_is_size s n e =
    let p = tests_passed (nat_lt (length s) 19) (header_fault s) (nat_lt (length s) (message_length s))
    (message_length s) n e in
    let a = (HasMessageLength-header s p.1).header in
    let b : message_length s ≤ length s = ltb-false (length s) (message_length s) p.2 in
    (omega (arith, a, p.3), omega (arith, b, p.3))

-- a whole message at the front stays one, whatever follows
pub message_size_is_stable : IsStable message_size
message_size_is_stable s t n e =
    let p = tests_passed (nat_lt (length s) 19) (header_fault s) (nat_lt (length s) (message_length s))
    (message_length s) n e in
    let a : 19 ≤ length s = ltb-false (length s) 19 p.0 in
    let b : message_length s ≤ length s = ltb-false (length s) (message_length s) p.2 in
    let l = length-append s t in
    let w = message_length-append s t a in
    size_if_passed (nat_lt (length (s ++ t)) 19) (header_fault (s ++ t))
    (nat_lt (length (s ++ t)) (message_length (s ++ t))) (message_length (s ++ t)) n
    (le-ltb (length (s ++ t)) 19 (omega (arith, a, l))) (header_fault-append s t a ∙ p.1)
    (le-ltb (length (s ++ t)) (message_length (s ++ t)) (omega (arith, b, l, w))) (w ∙ p.3)

-- the octets of a message at the front are a message by themselves
pub message_size_is_local : IsLocal message_size
message_size_is_local s n e =
    let p = tests_passed (nat_lt (length s) 19) (header_fault s) (nat_lt (length s) (message_length s))
    (message_length s) n e in
    let a = (HasMessageLength-header s p.1).header in
    let b : message_length s ≤ length s = ltb-false (length s) (message_length s) p.2 in
    let size : length (take n s) ≡ n = length-take-le n s (omega (arith, b, p.3)) in
    let long : 19 ≤ length (take n s) = omega (arith, a, p.3, size) in
    let joined = take-append-drop n s in
    let good : header_fault (take n s) ≡ None = sym (header_fault-append (take n s) (drop n s) long)
    ∙ ap header_fault joined ∙ p.1 in
    let field : message_length (take n s) ≡ message_length s = sym (message_length-append (take n s) (drop n s) long)
    ∙ ap message_length joined in
    size_if_passed (nat_lt (length (take n s)) 19) (header_fault (take n s))
    (nat_lt (length (take n s)) (message_length (take n s))) (message_length (take n s)) n
    (le-ltb (length (take n s)) 19 long) good (le-ltb (length (take n s)) (message_length (take n s))
    (omega (arith, field, p.3, size))) (field ∙ p.3)

-- An UPDATE that is not too long is one message, and how long it is.
use Rattle.std.proofs.Common.{◌≡◌, refl, sym, subst, ◌∙◌, ℕ, ◌+◌, ◌≤◌, List, [], ◌++◌, length, Bool, true, false, cond}
use Rattle.std.proofs.Common.{Option, None, arith, nat_lt}
use Rattle.std.specs.Prelude.{◌||◌, if◌then◌else◌}
use Rattle.std.proofs.lemmas.Bool.{le-ltb}
use Rattle.std.proofs.lemmas.List.{length-append}
use Rattle.std.proofs.lemmas.Nat.{from_be_bytes-to_be_bytes_2}
use Rattle.xb_words.specs.Octets.{two_octets}
use Rattle.xb_wire.specs.Messages.{Update, Notification, message, update_body, update_message, header_fault}
use Rattle.xb_wire.specs.Messages.{message_length, is_bad_length, IsMessage}
use Rattle.xb_wire.proofs.MessageLemmas.{size_if_passed}
use Rattle.bgp_write.specs.Packings.{Packed, packed_message}

no_fault : (a b c : Bool) (x y : Option Notification) → a ≡ false → b ≡ false → c ≡ false → cond {A = Option Notification} (a || b) x (cond {A = Option Notification} c y None) ≡ None
no_fault true b c x y e f g = cc
no_fault false true c x y e f g = cc
no_fault false false true x y e f g = cc
no_fault false false false x y e f g = refl

no_bad_length : (n : ℕ) → nat_lt n 23 ≡ false → is_bad_length 2 n ≡ false
no_bad_length n e = rw e refl

update_body_is_message : (body : List ℕ) → 4 ≤ length body → length body ≤ 4077 → IsMessage (message 2 body)
update_body_is_message body long short =
    let m = message 2 body in
    let size : message_length m ≡ 19 + length body = from_be_bytes-to_be_bytes_2 (19 + length body) (omega (arith, short)) in
    let whole : length m ≡ 19 + length body = omega arith in
    size_if_passed (nat_lt (length m) 19) (header_fault m) (nat_lt (length m) (message_length m)) (message_length m) (length m)
    (le-ltb (length m) 19 (omega arith))
    (no_fault (nat_lt (message_length m) 19) (nat_lt 4096 (message_length m)) (is_bad_length 2 (message_length m)) _ _ (le-ltb (message_length m) 19 (omega (arith, size))) (le-ltb 4096 (message_length m) (omega (arith, size, short))) (no_bad_length (message_length m) (le-ltb (message_length m) 23 (omega (arith, size, long)))))
    (le-ltb (length m) (message_length m) (omega (arith, size, whole)))
    (omega (arith, size, whole))

-- the length of an UPDATE
pub length-update_message : (u : Update) → length (update_message u) ≡ 23 + length u.withdrawn + length u.section + length u.nlri
length-update_message u =
    let w = two_octets (length u.section) in
    let long = length-append (two_octets (length u.withdrawn) ++ u.withdrawn ++ w ++ u.section) u.nlri in
    let middle = length-append (two_octets (length u.withdrawn) ++ u.withdrawn ++ w) u.section in
    let first = length-append (two_octets (length u.withdrawn) ++ u.withdrawn) w in
    omega (arith, long, middle, first)

length-packed_by : (w : Bool) (s ps : List ℕ) → length (packed_message (record { withdraws = w; section = s; prefixes = ps })) ≡ 23 + (if w then 0 else length s) + length ps
length-packed_by true s ps = length-update_message (record { withdrawn = ps; section = []; nlri = [] }) ∙ omega arith
length-packed_by false s ps = length-update_message (record { withdrawn = []; section = s; nlri = ps }) ∙ omega arith

-- the length of the message of what is packed
pub length-packed_message : (p : Packed) → length (packed_message p) ≡ 23 + (if p.withdraws then 0 else length p.section) + length p.prefixes
length-packed_message p = length-packed_by p.withdraws p.section p.prefixes

-- an UPDATE that is not too long is a message
pub update_is_message : (u : Update) → length (update_message u) ≤ 4096 → IsMessage (update_message u)
update_is_message u short =
    let size = length-update_message u in
    update_body_is_message (update_body u) (omega (arith, size)) (omega (arith, short))

-- a list that equals a message is one
pub is_message_along : (m n : List ℕ) → m ≡ n → IsMessage n → IsMessage m
is_message_along m n e is = subst IsMessage (sym e) is

-- A header with a fault at the front.
use Rattle.std.proofs.Common.{◌≡◌, ◌≤◌, refl, ◌∙◌, ℕ, Bool, true, false, cond, List, ◌++◌, length, Option, Some, None}
use Rattle.std.proofs.Common.{arith, nat_lt}
use Rattle.std.proofs.lemmas.Bool.{ltb-false, le-ltb}
use Rattle.std.proofs.lemmas.List.{length-append}
use Rattle.xb_wire.specs.Messages.{Notification, message_size, message_length, header_fault, front_fault}
use Rattle.xb_wire.proofs.MessageLemmas.{header_fault-append}

fault_parts : (short : Bool) (fault : Option Notification) (f : Notification)
    → cond {A = Option Notification} short None fault ≡ Some f → (short ≡ false) × (fault ≡ Some f)
fault_parts true fault f e = cc e
fault_parts false fault f e = (refl, e)

fault_made : (short : Bool) (fault : Option Notification) (f : Notification)
    → short ≡ false → fault ≡ Some f → cond {A = Option Notification} short None fault ≡ Some f
fault_made true fault f e is = cc e
fault_made false fault f e is = is

no_message : (short : Bool) (fault : Option Notification) (size : Option ℕ) (f : Notification)
    → cond {A = Option Notification} short None fault ≡ Some f
    → cond {A = Option ℕ} short None (elim fault [ Some g ↦ None | None ↦ size ]) ≡ None
no_message true fault size f e = refl
no_message false None size f e = cc e
no_message false (Some g) size f e = refl

-- a header with a fault is whole
pub front_fault_long : (s : List ℕ) (f : Notification) → front_fault s ≡ Some f → 19 ≤ length s
front_fault_long s f e = ltb-false (length s) 19 (fault_parts (nat_lt (length s) 19) (header_fault s) f e).0

-- a fault at the front stays, whatever follows
pub front_fault-append : (s t : List ℕ) (f : Notification) → front_fault s ≡ Some f → front_fault (s ++ t) ≡ Some f
front_fault-append s t f e =
    let p = fault_parts (nat_lt (length s) 19) (header_fault s) f e in
    let long : 19 ≤ length s = ltb-false (length s) 19 p.0 in
    fault_made (nat_lt (length (s ++ t)) 19) (header_fault (s ++ t)) f
    (le-ltb (length (s ++ t)) 19 (omega (arith, long, length-append s t))) (header_fault-append s t long ∙ p.1)

-- octets with a fault at the front have no message there
pub message_size-fault : (s : List ℕ) (f : Notification) → front_fault s ≡ Some f → message_size s ≡ None
message_size-fault s f e = no_message (nat_lt (length s) 19) (header_fault s)
    (cond (nat_lt (length s) (message_length s)) None (Some (message_length s))) f e

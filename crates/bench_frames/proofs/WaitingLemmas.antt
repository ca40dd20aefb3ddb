-- Fewer octets wait after a message was removed.
use Rattle.std.proofs.Common.{◌≡◌, ℕ, ◌<◌, List, length, drop, Some, arith, length-drop}
use Rattle.xb_wire.specs.Messages.{message_size}
use Rattle.xb_wire.proofs.MessageLemmas.{message_size_is_size}

pub fewer_wait : (waits : List ℕ) (len : ℕ) → message_size waits ≡ Some len → length (drop len waits) < length waits
fewer_wait waits len whole =
    let size = message_size_is_size waits len whole in
    omega (arith, length-drop len waits, size.0, size.1)

-- What the sender of a refused header is told (RFC 4271, section 6.1).
use Rattle.std.specs.Prelude.{[], ◌∷◌}
use Rattle.xb_words.specs.Octets.{two_octets}
use Rattle.xb_wire.specs.Messages.{Notification, notification}
use Rattle.xb_wire.specs.declared.numbers.TheConstants.{MESSAGE_HEADER_ERROR, CONNECTION_NOT_SYNCHRONIZED}
use Rattle.xb_wire.specs.declared.numbers.TheConstants.{BAD_MESSAGE_LENGTH, BAD_MESSAGE_TYPE}
use Rattle.xb_wire.specs.declared.header.HeaderFault.{HeaderFault}
use Rattle.xb_wire.specs.declared.header.HeaderFault.TheVariants.{Marker, Length, Kind}

-- the NOTIFICATION for a fault: the data is the length field or the type, as received
abbrev pub notification_of : HeaderFault → Notification
notification_of Marker = notification MESSAGE_HEADER_ERROR CONNECTION_NOT_SYNCHRONIZED []
notification_of (Length n) = notification MESSAGE_HEADER_ERROR BAD_MESSAGE_LENGTH (two_octets n)
notification_of (Kind k) = notification MESSAGE_HEADER_ERROR BAD_MESSAGE_TYPE (k ∷ [])

-- What a peer is told, in the words that both packings share.
use Rattle.std.specs.Prelude.{ℕ, List, Option, Some, None}
use Rattle.xb_values.specs.Prefixes.{Sections}
use Rattle.bgp_write.specs.Pending.{Formed}

-- what is advertised to a peer, and what the messages that were formed say
pub record Told : Type 0 where
  pub adv : Sections
  pub told : Sections

-- what has been told after the next message, if there is one
abbrev pub told_after : Option Formed → Sections → Sections
told_after None told = told
told_after (Some f) told = f.told

-- the next message, or the octets of before if there is none
abbrev pub written_after : Option Formed → List ℕ → List ℕ
written_after None octets = octets
written_after (Some f) octets = f.message

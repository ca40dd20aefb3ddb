-- The words in which reports are printed (this project's own).
use Rattle.std.specs.Prelude.{ℕ, List, codes}
use Rattle.xb_domain.specs.declared.point.Point.{Point}
use Rattle.xb_domain.specs.declared.point.Point.TheVariants.{Receive, Inbound, Decision, Outbound, Encode}
use Rattle.bpf_machine.specs.declared.world.Cause.{Cause}
use Rattle.bpf_machine.specs.declared.world.Cause.TheVariants.{Memory, Fuel, Misuse, BadReturn, BadOutput}

-- why a program failed
abbrev pub cause_word : Cause → List ℕ
cause_word Memory = codes "memory"
cause_word Fuel = codes "fuel"
cause_word Misuse = codes "misuse"
cause_word BadReturn = codes "return"
cause_word BadOutput = codes "output"

-- where a program ran
abbrev pub point_word : Point → List ℕ
point_word Receive = codes "receive"
point_word Inbound = codes "inbound"
point_word Decision = codes "decision"
point_word Outbound = codes "outbound"
point_word Encode = codes "encode"

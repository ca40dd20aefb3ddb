-- The lines of a replay's report (this project's own). Peers and sources are numbers, and 0 as a source is the speaker.
use Rattle.std.specs.Prelude.{ℕ, List, [], ◌∷◌, codes, decimal}
use Rattle.xb_values.specs.Prefixes.{Prefix}
use Rattle.xb_values.specs.Texts.{line, prefix_text, hex_text}
use Rattle.xb_domain.specs.declared.point.Point.{Point}
use Rattle.xb_domain.specs.Outputs.{Output, came_up, went_down, sent}
use Rattle.bpf_machine.specs.declared.world.Cause.{Cause}
use Rattle.table_print.specs.Words.{cause_word, point_word}

-- an output of the speaker
abbrev pub output_line : Output → List ℕ
output_line (came_up p) = line (codes "up" ∷ decimal p ∷ [])
output_line (went_down p) = line (codes "down" ∷ decimal p ∷ [])
output_line (sent p octets) = line (codes "sent" ∷ decimal p ∷ hex_text octets ∷ [])

-- a best route: its prefix, its source and its section
abbrev pub route_line : Prefix → ℕ → List ℕ → List ℕ
route_line prefix source section = line (codes "route" ∷ prefix_text prefix ∷ decimal source ∷ hex_text section ∷ [])

-- what is advertised to a peer at a prefix
abbrev pub adv_line : ℕ → Prefix → List ℕ → List ℕ
adv_line peer prefix section = line (codes "adv" ∷ decimal peer ∷ prefix_text prefix ∷ hex_text section ∷ [])

-- a peer for which nothing waits
abbrev pub drained_line : ℕ → List ℕ
drained_line peer = line (codes "drained" ∷ decimal peer ∷ [])

-- an entry of a map
abbrev pub map_line : List ℕ → List ℕ → List ℕ → List ℕ
map_line name key value = line (codes "map" ∷ name ∷ hex_text key ∷ hex_text value ∷ [])

-- a program that failed at a point
abbrev pub fault_line : List ℕ → Point → Cause → List ℕ
fault_line name point cause = line (codes "fault" ∷ name ∷ point_word point ∷ cause_word cause ∷ [])

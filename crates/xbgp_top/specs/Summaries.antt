-- The summary of generated events that a speaker took (this project's own).
use Rattle.std.specs.Prelude.{ℕ, ◌+◌, ◌-◌, ◌^◌, min, List, [], ◌∷◌, ◌++◌, length, map, flat_map, sum, codes, decimal}
use Rattle.std.specs.Prelude.{◌==◌, if◌then◌else◌, fold}
use Rattle.std.specs.List.{slice_index_or, slice_set}
use Rattle.xb_values.specs.Texts.{line}
use Rattle.xb_domain.specs.declared.output.Packing.{Packing}
use Rattle.xb_domain.specs.Outputs.{Output, came_up, went_down, sent}
use Rattle.xbgp_config.specs.WorkConfig.{work_config, work_peers}
use Rattle.xbgp_manifest.specs.Manifests.{no_manifest}
use Rattle.work_gen.specs.Work.{work_events}
use Rattle.spk_model.specs.declared.host.Setup.{Setup}
use Rattle.spk_model.specs.Routing.{tables_of}
use Rattle.spk_model.specs.Turning.{Speaker, Happened, history, start_of}
use Rattle.spk_model.specs.Reports.{end_line}

-- a word and a count
abbrev pub count_line : List ℕ → ℕ → List ℕ
count_line word n = line (word ∷ decimal n ∷ [])

-- a count as it is printed, which stays at its type's end
abbrev pub capped : ℕ → ℕ
capped n = min n (2 ^ 64 - 1)

-- how many octets an output sends to a peer
abbrev pub octets_to : ℕ → Output → ℕ
octets_to p (came_up q) = 0
octets_to p (went_down q) = 0
octets_to p (sent q octets) = if p == q then length octets else 0

-- how many octets outputs send to a peer
abbrev pub sent_to : ℕ → List Output → ℕ
sent_to p outputs = sum (map (octets_to p) outputs)

-- the line of a peer, with two counts
abbrev pub shown_peer_line : ℕ → ℕ → ℕ → List ℕ
shown_peer_line p advertised octets = line (codes "peer" ∷ decimal p ∷ decimal advertised ∷ decimal octets ∷ [])

-- the line of a peer: how many prefixes it is advertised, and how many octets it was sent
abbrev pub peer_line : Speaker → (ℕ → ℕ) → ℕ → List ℕ
peer_line s octets p = shown_peer_line p (capped (length (tables_of s.routing p).adv)) (octets p)

-- the lines of a count of updates, by the speaker after them and how many octets each peer was sent
abbrev pub summary_of : ℕ → Speaker → (ℕ → ℕ) → List ℕ
summary_of count s octets =
    count_line (codes "updates") count
    ++ (count_line (codes "routes") (capped (length (s.routing).best))
    ++ (flat_map (peer_line s octets) work_peers ++ end_line))

-- what came of a count of updates
abbrev pub summary : ℕ → Happened → List ℕ
summary count h = summary_of count h.speaker (λ p. capped (sent_to p h.outputs))

-- what the speaker of generated events is made of; there are no programs
abbrev pub work_setup : Setup
work_setup = record { config = work_config; manifest = no_manifest }

-- what comes of all events that a number and a count of updates give, for a speaker that packs by a rule
unfoldable pub work_text : Packing → ℕ → ℕ → List ℕ
work_text rule number count = summary count (history rule work_setup (start_of work_setup) (work_events number count))

-- what is counted as events are played: for each number up to the last peer's the octets that were sent to it (for the
-- loops of work.rt)
abbrev pub counted : List ℕ → Output → List ℕ
counted counts (came_up p) = counts
counted counts (went_down p) = counts
counted counts (sent p octets) = slice_set counts p (capped (slice_index_or counts p 0 + length octets))

-- the same of a list of outputs
abbrev pub counted_all : List ℕ → List Output → List ℕ
counted_all counts outputs = fold counted counts outputs

-- the summary with the octets that were counted
abbrev pub shown_summary : ℕ → Speaker → List ℕ → List ℕ
shown_summary count s counts = summary_of count s (λ p. slice_index_or counts p 0)

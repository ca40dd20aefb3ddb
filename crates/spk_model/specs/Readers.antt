-- What the readers of a host say, and which events a host takes (this project's own).
use Rattle.std.specs.Prelude.{◌≤◌, ℕ, Bool, List, [], length, Option, Some, None}
use Rattle.xb_words.specs.Table.{entry_after, has_key}
use Rattle.xb_domain.specs.Events.{Event}
use Rattle.replay_log.specs.Lines.{IsFor}
use Rattle.xb_values.specs.Buffers.{Buffer}
use Rattle.xb_values.specs.Prefixes.{Prefix, prefix_cmp}
use Rattle.bpf_machine.specs.declared.world.Cause.{Cause}
use Rattle.xbgp_maps.specs.Mappings.{Mapping, mapping_at, entry_after_in}
use Rattle.xbgp_points.specs.Chains.{fault_cmp}
use Rattle.spk_model.specs.declared.host.Setup.{Setup}
use Rattle.spk_model.specs.Routing.{Chosen, tables_of}
use Rattle.spk_model.specs.Turning.{Speaker}

-- the number of a configured peer
abbrev pub IsPeer : Setup → ℕ → Type 0
IsPeer setup p = (1 ≤ p) × (p ≤ length (setup.config).peers)

-- the event names a configured peer, and the time does not fall: what the grammar of the log says of an event
abbrev pub AreConfigured : Setup → Speaker → Event → Type 0
AreConfigured setup s e = IsFor (length (setup.config).peers) s.clock e

-- the best route at the first prefix after one, or at the first of all
abbrev pub best_after : Speaker → Option Prefix → Option (Prefix × Chosen)
best_after s after = entry_after prefix_cmp (s.routing).best after

-- the section that a peer is advertised at the first prefix after one, or at the first of all
abbrev pub advertised_after : Speaker → ℕ → Option Prefix → Option (Prefix × List ℕ)
advertised_after s p after = entry_after prefix_cmp (tables_of s.routing p).adv after

-- a buffer with other content, or as it was
abbrev pub showing : Buffer → Option (List ℕ) → Buffer
showing b None = b
showing b (Some section) = record b { octets = section }

-- the entries of a map by rising key; of a map that there is not, none
abbrev pub entries_in : Option Mapping → List (List ℕ × List ℕ)
entries_in None = []
entries_in (Some m) = m.entries

abbrev pub map_entries : Speaker → ℕ → List (List ℕ × List ℕ)
map_entries s map = entries_in (mapping_at ((s.routing).engine).maps map)

-- the entry of a map after a key, or its first
abbrev pub map_entry_after : Speaker → ℕ → Option (List ℕ) → Option (List ℕ × List ℕ)
map_entry_after s map after = entry_after_in ((s.routing).engine).maps map after

-- a fault of a program was noted
abbrev pub has_fault : Speaker → ℕ → Cause → Bool
has_fault s program cause = has_key fault_cmp ((s.routing).engine).faults (program, cause)

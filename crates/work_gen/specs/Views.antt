-- What the private parts of `Work` mean: the events that are still to come, and an event whose octets are in a buffer.
use Rattle.std.specs.Prelude.{ℕ, ◌+◌, ◌%◌, ◌≤◌, List, [], ◌∷◌, ◌++◌, drop, map, flat_map, ◌==◌}
use Rattle.std.specs.Prelude.{if◌then◌else◌}
use Rattle.xb_words.specs.Octets.{two_octets}
use Rattle.xb_domain.specs.Events.{Event, start, up, octets, drain}
use Rattle.xb_domain.specs.Views.{event_view}
use Rattle.bgp_write.specs.Written.{keepalive_message}
use Rattle.xbgp_config.specs.WorkConfig.{work_peer, work_peers, is_work_internal}
use Rattle.work_gen.specs.declared.step.Step.{Step}
use Rattle.work_gen.specs.declared.step.Step.TheVariants as steps
use Rattle.work_gen.specs.declared.work.Told.{Told}
use Rattle.work_gen.specs.declared.work.Told.TheVariants as told
use Rattle.work_gen.specs.Work.{open_of, session_events, drains, updates}

-- the updates that are left, and the drains at the end
abbrev pub updates_left : ℕ → ℕ → ℕ → List Event
updates_left x done left = updates x done left ++ drains

-- the events after the session of a peer came up
abbrev pub after_session : ℕ → ℕ → ℕ → ℕ → List Event
after_session p x done left = flat_map session_events (drop p work_peers) ++ updates_left x done left

-- the drains after that of a peer
abbrev pub drains_after : ℕ → List Event
drains_after p = map drain (drop p work_peers)

-- the drains after an update, if it is a hundredth
abbrev pub drains_at : ℕ → List Event
drains_at done = if done % 100 == 0 then drains else []

-- the events from a step on, with the number from which is drawn, how many updates there were and how many are left
abbrev pub to_come : Step → ℕ → ℕ → ℕ → List Event
to_come (steps.Start p) x done left =
    start p ∷ up p ∷ octets p (open_of p) ∷ octets p keepalive_message ∷ after_session p x done left
to_come (steps.Up p) x done left =
    up p ∷ octets p (open_of p) ∷ octets p keepalive_message ∷ after_session p x done left
to_come (steps.Open p) x done left = octets p (open_of p) ∷ octets p keepalive_message ∷ after_session p x done left
to_come (steps.Keepalive p) x done left = octets p keepalive_message ∷ after_session p x done left
to_come steps.Update x done left = updates_left x done left
to_come (steps.Drain p) x done left = drain p ∷ drains_after p ++ updates_left x done left
to_come (steps.LastDrain p) x done left = drain p ∷ drains_after p
to_come steps.End x done left = []

-- the number of a peer
abbrev pub IsPeer : ℕ → Type 0
IsPeer p = (1 ≤ p) × (p ≤ 4)

-- the peer of a step is one of the four
abbrev pub IsStep : Step → Type 0
IsStep (steps.Start p) = IsPeer p
IsStep (steps.Up p) = IsPeer p
IsStep (steps.Open p) = IsPeer p
IsStep (steps.Keepalive p) = IsPeer p
IsStep steps.Update = Unit {0}
IsStep (steps.Drain p) = IsPeer p
IsStep (steps.LastDrain p) = IsPeer p
IsStep steps.End = Unit {0}

-- an event whose octets are those of a buffer
abbrev pub told_view : List ℕ → Told → Event
told_view bytes (told.Octets p) = octets p bytes
told_view bytes (told.Event e) = event_view e

-- the octets of a path before `count` drawn numbers
abbrev pub path_front : ℕ → ℕ → List ℕ
path_front p count =
    if is_work_internal p then (if count == 0 then [] else 2 ∷ count ∷ [])
    else 2 ∷ (count + 1) ∷ two_octets (work_peer p).asn

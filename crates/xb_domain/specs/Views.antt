-- Events and outputs without their place in memory.
use Rattle.xb_domain.specs.Events.{Event, start, stop, up, down, octets, time, room, drain, rescan}
use Rattle.xb_domain.specs.Outputs.{Output, came_up, went_down, sent}
use Rattle.xb_domain.specs.declared.event.Event as lent
use Rattle.xb_domain.specs.declared.event.Event.TheVariants.{Start, Stop, Up, Down, Octets, Time, Room, Drain, Rescan}
use Rattle.xb_domain.specs.declared.output.Output as given
use Rattle.xb_domain.specs.declared.output.Output.TheVariants as outputs
use Rattle.xb_domain.specs.declared.kept.Kept.{Kept}
use Rattle.xb_domain.specs.declared.kept.Kept.TheVariants as kept

-- an event of the code
abbrev pub event_view : lent.Event → Event
event_view (Start p) = start p
event_view (Stop p) = stop p
event_view (Up p) = up p
event_view (Down p) = down p
event_view (Octets p bytes) = octets p bytes.now
event_view (Time t) = time t
event_view (Room p k) = room p k
event_view (Drain p) = drain p
event_view Rescan = rescan

-- an output of the code
abbrev pub output_view : given.Output → Output
output_view (outputs.Up p) = came_up p
output_view (outputs.Down p) = went_down p
output_view (outputs.Sent p bytes) = sent p bytes.now

-- a kept output (for the model of `Outputs`)
abbrev pub kept_view : Kept → Output
kept_view (kept.Up p) = came_up p
kept_view (kept.Down p) = went_down p
kept_view (kept.Sent p bytes) = sent p bytes.items

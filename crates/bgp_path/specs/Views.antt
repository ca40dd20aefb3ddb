-- A segment that a walk returns, without its location in memory.
use Rattle.bgp_path.specs.declared.segments.Segment.{Segment}
use Rattle.bgp_path.specs.Parts.{Part}

abbrev pub segment_view : Segment → Part
segment_view s = record { set = s.set; count = s.count; octets = s.octets.now }

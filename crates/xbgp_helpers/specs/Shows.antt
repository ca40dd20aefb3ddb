-- What the five world types show of what they borrow, and what their calls do to it (this project's own).
use Rattle.std.specs.Prelude.{ℕ, List, [], Option, None}
use Rattle.xb_domain.specs.declared.point.Point.{Point}
use Rattle.xb_domain.specs.declared.side.Side.{Side}
use Rattle.xb_values.specs.Buffers.{Buffer}
use Rattle.xb_values.specs.Prefixes.{Prefix}
use Rattle.bgp_attr.specs.Routes.{Route}
use Rattle.bpf_machine.specs.Running.{Helps}
use Rattle.xbgp_maps.specs.Mappings.{Mapping, Journalled}
use Rattle.xbgp_view.specs.Views.{Edited}
use Rattle.xbgp_helpers.specs.Worlds.{World, nobody, nowhere}
use Rattle.xbgp_helpers.specs.Helping.{help}

-- A world, and three things that no call changes: the kept copy of the route and the maps as at the begin of the run,
-- if they are borrowed for writing, and the capacity of the write buffer.
pub record Shown : Type 0 where
  pub world : World
  pub kept : Route
  pub began : Option (List Mapping)
  pub capacity : ℕ

-- a call at a point
abbrev pub help_shown : Point → Helps Shown
help_shown point number args memory shown =
    let result = help point number args memory shown.world in
    record { called = result.called; memory = result.memory; world = record shown { world = result.world } }

-- at receive: the clock, the sender, the edited route, the speaker, the maps, the heap mark
abbrev pub shown_at_receive : ℕ → Side → Edited → Side → Journalled → ℕ → Shown
shown_at_receive now peer route local maps mark = record {
  world = record {
    route = route.route;
    other = [];
    peer = peer;
    source = nobody;
    other_source = nobody;
    local = local;
    prefix = nowhere;
    now = now;
    maps = maps.maps;
    writes = maps.writes;
    buffer = [];
    mark = mark;
  };
  kept = route.kept;
  began = maps.began;
  capacity = 0;
}

-- at inbound: the same, with the prefix
abbrev pub shown_at_inbound : ℕ → Side → Prefix → Edited → Side → Journalled → ℕ → Shown
shown_at_inbound now peer prefix route local maps mark =
    let shown = shown_at_receive now peer route local maps mark in
    record shown { world = record (shown.world) { prefix = prefix } }

-- at decision: the prefix, the old route with its source, the new one with its source, the speaker, the maps, the heap
-- mark
abbrev pub shown_at_decision : Prefix → Route → Side → Route → Side → Side → Journalled → ℕ → Shown
shown_at_decision prefix old old_side new new_side local maps mark = record {
  world = record {
    route = old;
    other = new;
    peer = nobody;
    source = old_side;
    other_source = new_side;
    local = local;
    prefix = prefix;
    now = 0;
    maps = maps.maps;
    writes = 0;
    buffer = [];
    mark = mark;
  };
  kept = [];
  began = None;
  capacity = 0;
}

-- at outbound: the receiver, the source of both routes, the prefix, the best route before export, the edited route, the
-- speaker, the maps, the heap mark
abbrev pub shown_at_outbound : Side → Side → Prefix → Route → Edited → Side → Journalled → ℕ → Shown
shown_at_outbound peer source prefix best route local maps mark = record {
  world = record {
    route = route.route;
    other = best;
    peer = peer;
    source = source;
    other_source = source;
    local = local;
    prefix = prefix;
    now = 0;
    maps = maps.maps;
    writes = 0;
    buffer = [];
    mark = mark;
  };
  kept = route.kept;
  began = None;
  capacity = 0;
}

-- at encode: the receiver, the source of both routes, the best route before export, the route to be encoded, the write
-- buffer, the speaker, the maps, the heap mark
abbrev pub shown_at_encode : Side → Side → Route → Route → Buffer → Side → Journalled → ℕ → Shown
shown_at_encode peer source best route buffer local maps mark = record {
  world = record {
    route = route;
    other = best;
    peer = peer;
    source = source;
    other_source = source;
    local = local;
    prefix = nowhere;
    now = 0;
    maps = maps.maps;
    writes = 0;
    buffer = buffer.octets;
    mark = mark;
  };
  kept = [];
  began = None;
  capacity = buffer.capacity;
}

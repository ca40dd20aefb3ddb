-- What an event does to buffers and both halves.
use Rattle.std.proofs.Common.{◌≡◌, ◌≤◌, ◌<◌, ◌-◌, ◌+◌, refl, sym, ◌∙◌, ap, subst, ℕ, Bool, true, false}
use Rattle.std.proofs.Common.{List, [], length, take, Some, None, arith, replicate, Vec}
use Rattle.std.specs.Prelude.{slice_index_or}
use Rattle.std.specs.List.{slice_set}
use Rattle.std.specs.declared.alloc.Global.{Global}
use Rattle.std.proofs.lemmas.List.Elements.{All-set, All-get_or}
use Rattle.std.proofs.lemmas.List.{set-get_or, length-map, map-set, get_or_default, length-replicate}
use Rattle.std.proofs.Math.ListN.{get_or-map, length-set}
use Rattle.xb_domain.specs.declared.output.Packing.{Packing}
use Rattle.xb_domain.specs.Outputs.{Output}
use Rattle.xb_domain.specs.Events.{Event, start, stop, up, down, octets, time, room, drain, rescan}
use Rattle.bgp_frame.specs.Waiting.{Waiting}
use Rattle.bgp_fsm.specs.Sessions.{Owned}
use Rattle.bgp_fsm.specs.declared.Stimulus.TheVariants as stimuli
use Rattle.spk_model.specs.declared.host.Setup.{Setup}
use Rattle.spk_model.specs.Routing.{Routing}
use Rattle.spk_model.specs.Turning.{Turn, turn, react, octets_in, time_to, emit, before, event}
use Rattle.spk_session.specs.declared.links.Links.{Links}
use Rattle.spk_session.specs.Routed.{Reroutes, rescanned}
use Rattle.spk_session.specs.Meaning.{Core, core_of, Does, HasPeer, IsReady, kept, speaker_of, turn_of}
use Rattle.spk_session.specs.Taking.{IsDrained, Receives}
use Rattle.spk_session.specs.Hosting.{waits_of, shown, AreDrained, IsSound, Turns}
use Rattle.spk_session.proofs.Dropping.{kept_at, kept-next, kept-calm, kept_drained}

-- an event that looks at no buffer
pub turns_by : (rule : Packing) (event e : Event) (frames : List Waiting) (a b : Core) → IsSound frames a → event ≡ e
    → Does (λ s t. turn rule s t e) a b → Turns rule event frames a frames b
turns_by rule event e frames a b sound is d =
    subst (λ (x : Event). Turns rule x frames a frames b) (sym is)
    (record {
      ready = d.ready;
      setup = d.setup;
      count = refl;
      drained = sound.drained;
      speaker = λ trace. d.speaker (waits_of frames) trace;
      outputs = λ trace. d.outputs (waits_of frames) trace;
    })

pub by_start : (rule : Packing) (p : ℕ) (a b : Core) → Does (λ s t. react s t p stimuli.Start []) a b
    → Does (λ s t. turn rule s t (start p)) a b
unfolding turn
by_start rule p a b d = record { ready = d.ready; setup = d.setup; speaker = d.speaker; outputs = d.outputs }

pub by_stop : (rule : Packing) (p : ℕ) (a b : Core) → Does (λ s t. react s t p stimuli.Stop []) a b
    → Does (λ s t. turn rule s t (stop p)) a b
unfolding turn
by_stop rule p a b d = record { ready = d.ready; setup = d.setup; speaker = d.speaker; outputs = d.outputs }

pub by_up : (rule : Packing) (p : ℕ) (a b : Core) → Does (λ s t. react s t p stimuli.LinkUp []) a b
    → Does (λ s t. turn rule s t (up p)) a b
unfolding turn
by_up rule p a b d = record { ready = d.ready; setup = d.setup; speaker = d.speaker; outputs = d.outputs }

pub by_down : (rule : Packing) (p : ℕ) (a b : Core) → Does (λ s t. react s t p stimuli.LinkDown []) a b
    → Does (λ s t. turn rule s t (down p)) a b
unfolding turn
by_down rule p a b d = record { ready = d.ready; setup = d.setup; speaker = d.speaker; outputs = d.outputs }

pub by_time : (rule : Packing) (now : ℕ) (a b : Core) → Does (λ s t. time_to s t now) a b
    → Does (λ s t. turn rule s t (time now)) a b
unfolding turn
by_time rule now a b d = record { ready = d.ready; setup = d.setup; speaker = d.speaker; outputs = d.outputs }

pub by_room : (rule : Packing) (p k : ℕ) (a b : Core) → Does (λ s t. emit rule t p (Some k)) a b
    → Does (λ s t. turn rule s t (room p k)) a b
unfolding turn
by_room rule p k a b d = record { ready = d.ready; setup = d.setup; speaker = d.speaker; outputs = d.outputs }

pub by_drain : (rule : Packing) (p : ℕ) (a b : Core) → Does (λ s t. emit rule t p None) a b
    → Does (λ s t. turn rule s t (drain p)) a b
unfolding turn
by_drain rule p a b d = record { ready = d.ready; setup = d.setup; speaker = d.speaker; outputs = d.outputs }

pub by_rescan : (rule : Packing) (setup setup' : Setup) (routing routing' : Routing) (l : Links) (sessions : List Owned)
    → IsReady (core_of setup routing l) → setup' ≡ setup → sessions ≡ (l.sessions).items
    → Reroutes (rescanned setup sessions) routing routing'
    → Does (λ s t. turn rule s t rescan) (core_of setup routing l) (core_of setup' routing' l)
unfolding turn
by_rescan rule setup setup' routing routing' l sessions ready same all goes = record {
  ready = record {
    even = ready.even;
    count = ready.count ∙ ap (λ (s : Setup). length (s.config).peers) (sym same);
  };
  setup = same;
  speaker = λ waits trace. ap (λ (r : Routing). speaker_of waits (core_of setup r l))
      (ap (λ (ss : List Owned). (rescanned setup ss (record { routing = routing; trace = trace })).routing) (sym all)
      ∙ goes trace);
  outputs = λ waits trace. refl;
}

-- what waits in the buffer that was read
pub wait_read : (frames : List Waiting) (i : ℕ) (f : Waiting) → f ≡ slice_index_or frames i f
    → f.waits ≡ slice_index_or (waits_of frames) i f.waits
wait_read frames i f is =
    ap (λ (x : Waiting). x.waits) is ∙ sym (get_or-map (λ (x : Waiting). x.waits) frames i f)

pub buffer_drained : (frames : List Waiting) (a : Core) (p : ℕ) (f : Waiting) → IsSound frames a → HasPeer a.links p
    → f ≡ slice_index_or frames (p - 1) f → IsDrained f.waits
buffer_drained frames a p f sound peer is =
    let inside : p - 1 < length (waits_of frames) =
    omega (arith, length-map frames (λ (x : Waiting). x.waits), sound.count, peer.0, peer.1) in
    subst IsDrained (sym (wait_read frames (p - 1) f is))
    (All-get_or IsDrained (waits_of frames) (p - 1) f.waits inside sound.drained)

by_octets_at : (rule : Packing) (p : ℕ) (piece : List ℕ) (frames : List Waiting) (a b : Core) (f f' : Waiting)
    → IsSound frames a → HasPeer a.links p → f ≡ slice_index_or frames (p - 1) f
    → Receives p piece f.waits a f'.waits b
    → Turns rule (octets p piece) frames a (slice_set frames (p - 1) f') b
unfolding turn
by_octets_at rule p piece frames a b f f' sound peer is r =
    let inside : p - 1 < length (waits_of frames) =
    omega (arith, length-map frames (λ (x : Waiting). x.waits), sound.count, peer.0, peer.1) in
    let before : slice_set (waits_of frames) (p - 1) f.waits ≡ waits_of frames =
    ap (slice_set (waits_of frames) (p - 1)) (wait_read frames (p - 1) f is)
    ∙ set-get_or (waits_of frames) (p - 1) f.waits in
    let after : waits_of (slice_set frames (p - 1) f') ≡ slice_set (waits_of frames) (p - 1) f'.waits =
    map-set (λ (x : Waiting). x.waits) frames (p - 1) f' in
    record {
      ready = r.ready;
      setup = r.setup;
      count = length-set frames (p - 1) f';
      drained = subst AreDrained (sym after) (All-set IsDrained (waits_of frames)
          (p - 1) f'.waits r.drained sound.drained);
      speaker = λ trace.
          ap (λ (ws : List (List ℕ)). (octets_in a.setup (turn_of ws trace a) p piece).speaker) (sym before)
          ∙ r.speaker (waits_of frames) trace inside
          ∙ ap (λ (ws : List (List ℕ)). speaker_of ws b) (sym after);
      outputs = λ trace.
          ap (λ (ws : List (List ℕ)). (octets_in a.setup (turn_of ws trace a) p piece).outputs) (sym before)
          ∙ r.outputs (waits_of frames) trace inside;
    }

-- octets that came go into one buffer
pub by_octets : (rule : Packing) (event : Event) (p : ℕ) (piece : List ℕ) (frames : List Waiting) (a b : Core)
    (f f' : Waiting) → IsSound frames a → HasPeer a.links p → f ≡ slice_index_or frames (p - 1) f
    → event ≡ octets p piece → Receives p piece f.waits a f'.waits b
    → Turns rule event frames a (slice_set frames (p - 1) f') b
by_octets rule event p piece frames a b f f' sound peer is same r =
    subst (λ (x : Event). Turns rule x frames a (slice_set frames (p - 1) f') b) (sym same)
    (by_octets_at rule p piece frames a b f f' sound peer is r)

-- the number of a configured peer is that of a peer
pub peer_there : (a : Core) (p : ℕ) → IsReady a → (1 ≤ p) × (p ≤ length ((a.setup).config).peers) → HasPeer a.links p
peer_there a p ready peer = (peer.0, subst (λ (n : ℕ). p ≤ n) (sym ready.count) peer.1)

-- a buffer is cleared because its flag is set
pub dropped_on : (flags : List Bool) (i : ℕ) (flag : Bool) (waits : List (List ℕ)) (frames frames' : List Waiting)
    (f : Waiting) → i < length flags → flag ≡ slice_index_or flags i flag → flag ≡ true
    → waits_of frames ≡ kept (take i flags) waits → frames' ≡ slice_set frames i f → f.waits ≡ []
    → waits_of frames' ≡ kept (take (i + 1) flags) waits
dropped_on flags i flag waits frames frames' f inside is raised so_far after empty =
    ap waits_of after ∙ map-set (λ (x : Waiting). x.waits) frames i f
    ∙ ap (λ (w : List ℕ). slice_set (waits_of frames) i w) empty
    ∙ ap (λ (ws : List (List ℕ)). slice_set ws i []) so_far
    ∙ sym (ap (λ (d : Bool). kept_at d i (kept (take i flags) waits))
    (sym (get_or_default flags i flag false inside) ∙ sym is ∙ raised))
    ∙ sym (kept-next flags i waits inside)

-- a buffer is left because its flag is not set
pub dropped_off : (flags : List Bool) (i : ℕ) (flag : Bool) (waits : List (List ℕ)) (frames : List Waiting)
    → i < length flags → flag ≡ slice_index_or flags i flag → flag ≡ false
    → waits_of frames ≡ kept (take i flags) waits → waits_of frames ≡ kept (take (i + 1) flags) waits
dropped_off flags i flag waits frames inside is lowered so_far =
    so_far
    ∙ sym (ap (λ (d : Bool). kept_at d i (kept (take i flags) waits))
    (sym (get_or_default flags i flag false inside) ∙ sym is ∙ lowered))
    ∙ sym (kept-next flags i waits inside)

-- the host after the flags were looked at, and the outputs taken away
pub shown_after : (b : Core) (first after : List Waiting) (l : Links) (ds : Vec Bool Global) (os : List Output)
    → waits_of after ≡ kept ((b.links).dropped).items (waits_of first)
    → ds.items ≡ replicate (length ((b.links).sessions).items) false → l ≡ record b.links { dropped = ds }
    → shown after (core_of b.setup b.routing (record l { outputs = os })) ≡ speaker_of (waits_of first) b
shown_after b first after l ds os waits calm is =
    ap (λ (x : Links). shown after (core_of b.setup b.routing (record x { outputs = os }))) is
    ∙ ap
    (λ (ws : List (List ℕ)). record {
      clock = (b.links).clock;
      sessions = ((b.links).sessions).items;
      rests = ((b.links).rests).items;
      waits = ws;
      routing = b.routing;
    })
    (ap (λ (flags : List Bool). kept flags (waits_of after)) calm
    ∙ kept-calm (length ((b.links).sessions).items) (waits_of after) ∙ waits)

sound_at : (b : Core) (first after : List Waiting) (ds : Vec Bool Global)
    → IsReady b → waits_of after ≡ kept ((b.links).dropped).items (waits_of first) → AreDrained (waits_of first)
    → length after ≡ length ((b.links).sessions).items
    → ds.items ≡ replicate (length ((b.links).sessions).items) false
    → IsSound after (core_of b.setup b.routing (record b.links { dropped = ds; outputs = [] }))
sound_at b first after ds ready waits drained count calm = record {
  ready = record {
    even = record {
      few = (ready.even).few;
      rests = (ready.even).rests;
      flags = ap length calm ∙ length-replicate (length ((b.links).sessions).items) false;
      room = (ready.even).room;
    };
    count = ready.count;
  };
  calm = calm;
  silent = refl;
  count = count;
  drained = subst AreDrained (sym waits) (kept_drained ((b.links).dropped).items (waits_of first) drained);
}

pub sound_after : (b : Core) (first after : List Waiting) (l : Links) (ds : Vec Bool Global) (os : List Output)
    → IsReady b → waits_of after ≡ kept ((b.links).dropped).items (waits_of first) → AreDrained (waits_of first)
    → length after ≡ length ((b.links).sessions).items
    → ds.items ≡ replicate (length ((b.links).sessions).items) false → l ≡ record b.links { dropped = ds }
    → os ≡ [] → IsSound after (core_of b.setup b.routing (record l { outputs = os }))
sound_after b first after l ds os ready waits drained count calm is none =
    subst (λ (x : Links). IsSound after (core_of b.setup b.routing (record x { outputs = os }))) (sym is)
    (subst (λ (x : List Output). IsSound after
    (core_of b.setup b.routing (record b.links { dropped = ds; outputs = x })))
    (sym none) (sound_at b first after ds ready waits drained count calm))

-- an event of a host without outputs
quiet : (rule : Packing) (e : Event) (frames : List Waiting) (a : Core) → IsSound frames a
    → turn rule a.setup (turn_of (waits_of frames) [] a) e ≡ turn rule a.setup (before (shown frames a)) e
quiet rule e frames a sound =
    ap (λ (os : List Output). turn rule a.setup (record { speaker = shown frames a; outputs = os; trace = [] }) e)
    sound.silent

pub speaker_stepped : (rule : Packing) (e : Event) (frames frames' : List Waiting) (a b : Core) → IsSound frames a
    → Turns rule e frames a frames' b
    → speaker_of (waits_of frames') b ≡ (event rule a.setup (shown frames a) e).speaker
unfolding event
speaker_stepped rule e frames frames' a b sound t =
    sym (t.speaker []) ∙ ap (λ (u : Turn). u.speaker) (quiet rule e frames a sound)

pub outputs_stepped : (rule : Packing) (e : Event) (frames frames' : List Waiting) (a b : Core) → IsSound frames a
    → Turns rule e frames a frames' b
    → (b.links).outputs ≡ (event rule a.setup (shown frames a) e).outputs
unfolding event
outputs_stepped rule e frames frames' a b sound t =
    sym (t.outputs []) ∙ ap (λ (u : Turn). u.outputs) (quiet rule e frames a sound)

-- there is still a buffer for each peer
pub count_after : (rule : Packing) (e : Event) (frames frames' last : List Waiting) (a b : Core) → IsSound frames a
    → Turns rule e frames a frames' b → length last ≡ length frames'
    → length last ≡ length ((b.links).sessions).items
count_after rule e frames frames' last a b sound t same =
    same ∙ t.count ∙ sound.count ∙ (sound.ready).count ∙ ap (λ (s : Setup). length (s.config).peers) (sym t.setup)
    ∙ sym (t.ready).count

-- no flag is set, by the sessions of the links before
pub calm_after : (l old : Links) → (l.dropped).items ≡ replicate (length (l.sessions).items) false
    → l ≡ record old { dropped = l.dropped } → (l.dropped).items ≡ replicate (length (old.sessions).items) false
calm_after l old calm same = calm ∙ ap (λ (x : Links). replicate (length (x.sessions).items) false) same

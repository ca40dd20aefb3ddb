-- An event at which all programs at some points fail does what it does with programs there that only call `next`.
use Rattle.std.proofs.Common.{◌≡◌, refl, sym, ap, ◌∙◌, subst, ℕ, zero, suc, ◌+◌, ◌*◌, ◌-◌, Bool, true, false}
use Rattle.std.proofs.Common.{List, [], ◌∷◌, ◌++◌, Option, Some, None, fold, take, drop}
use Rattle.std.proofs.lemmas.Bool.{and_parts}
use Rattle.std.specs.Prelude.{◌==◌, ◌&&◌, ◌||◌, filter, if◌then◌else◌, length, nat_le, nat_lt, not}
use Rattle.std.specs.Map.{keys_of}
use Rattle.std.specs.List.{list_any, slice_index_or}
use Rattle.std.specs.List.Sorted.{IsStrictlySortedBy}
use Rattle.xb_words.specs.Table.{set_of, value_at, with_value, without}
use Rattle.xb_domain.specs.declared.output.Packing.{Packing}
use Rattle.xb_domain.specs.declared.point.Point.{Point}
use Rattle.xb_domain.specs.declared.point.Point.TheVariants.{Receive, Inbound, Decision, Outbound, Encode}
use Rattle.xb_domain.specs.declared.side.Side.{Side}
use Rattle.xb_domain.specs.Events.{Event, start, stop, up, down, octets, time, room, drain, rescan}
use Rattle.xb_domain.specs.Outputs.{Output, came_up, went_down}
use Rattle.xb_values.specs.Prefixes.{Prefix, prefix_cmp, prefixes}
use Rattle.xb_wire.specs.declared.numbers.TheConstants.{OPEN, UPDATE, NOTIFICATION}
use Rattle.xb_wire.specs.Messages.{Notification, Update, update_parts, message_kind, message_body, message_size}
use Rattle.xb_wire.specs.Messages.{front_fault}
use Rattle.bgp_attr.specs.Routes.{Route}
use Rattle.bgp_write.specs.Pending.{Formed, form, pending}
use Rattle.bgp_fsm.specs.declared.State.{State}
use Rattle.bgp_fsm.specs.declared.State.TheVariants.{Idle, Connect, OpenSent, OpenConfirm, Established}
use Rattle.bgp_fsm.specs.declared.Stimulus.{Stimulus}
use Rattle.bgp_fsm.specs.declared.Stimulus.TheVariants as stimuli
use Rattle.bgp_fsm.specs.declared.Act.{Act}
use Rattle.bgp_fsm.specs.declared.Act.TheVariants as acts
use Rattle.bgp_fsm.specs.Sessions.{Owned, row, is_live}
use Rattle.spk_native.specs.Export.{carry, native_section}
use Rattle.spk_native.specs.Filters.{accepts_inbound, accepts_outbound}
use Rattle.spk_native.specs.Receipt.{wire}
use Rattle.xbgp_config.specs.Configs.{same_prefix}
use Rattle.xbgp_helpers.specs.Worlds.{World, nobody, nowhere}
use Rattle.xbgp_manifest.specs.Manifests.{IsManifest}
use Rattle.xbgp_maps.specs.Mappings.{Mapping}
use Rattle.xbgp_points.specs.declared.outcome.Outcome.{Outcome}
use Rattle.xbgp_points.specs.declared.outcome.Outcome.TheVariants.{Verdict, Native, Failed}
use Rattle.xbgp_points.specs.Chains.{Faults, chain, is_failed}
use Rattle.xbgp_points.specs.Points.{Called, Engine, called, encode, given_section, inbound, outbound, receive}
use Rattle.xbgp_points.specs.Points.{section_by, world_of}
use Rattle.spk_model.specs.declared.host.Setup.{Setup}
use Rattle.spk_model.specs.Sources.{is_up, is_wide, peer_numbers, side_of}
use Rattle.spk_model.specs.Choosing.{Candidate, Choice, Trace}
use Rattle.spk_model.specs.Tournaments.{Match, choose, chosen, first_match, is_new_preferred}
use Rattle.spk_model.specs.Tournaments.{is_verdict, meet, meet_all, meeting}
use Rattle.spk_model.specs.Exporting.{Exported, accepted, encoded_for, exported, section_or, short_enough}
use Rattle.spk_model.specs.Routing.{Chosen, Routed, announce, announce_one, at_tables, best_of}
use Rattle.spk_model.specs.Routing.{candidates, decide, decided, drop_all, export, export_all, export_best, lose}
use Rattle.spk_model.specs.Routing.{no_tables, ran_all, receive_if, receive_route, routes_of, set_adv, set_best}
use Rattle.spk_model.specs.Routing.{set_routes, set_tables, settle, settle_all, update, withdraw}
use Rattle.spk_model.specs.Turning.{Due, Speaker, Turn, act, before, control, emit, emit_turns}
use Rattle.spk_model.specs.Turning.{event, fire_first, fire_in_time, first_due, form_next, formed_rest, front_in}
use Rattle.spk_model.specs.Turning.{gives}
use Rattle.spk_model.specs.Turning.{history, is_spent, judged_open, judged_update, known_prefixes, less, message_in}
use Rattle.spk_model.specs.Turning.{octets_in, open_in, put_rest, react, refuse, rest_of, rest_or_form, routed}
use Rattle.spk_model.specs.Turning.{session_at, set_clock, set_session, set_wait, start_of, state_of}
use Rattle.spk_model.specs.Turning.{stimulus_of, tables_at, take_turns, taken_update, time_to, time_turns, trace}
use Rattle.spk_model.specs.Turning.{turn}
use Rattle.spk_model.specs.Turning.{unless_spent, update_in, wait_of, when_true, with_routes}
use Rattle.spk_model.specs.Laws.{AllFail, AreAlike, AreFaults, IsReached, all_fail, contained_step}
use Rattle.spk_model.specs.Laws.{containment, faults_elsewhere, has_point, stilled, without_faults}
use Rattle.spk_model.proofs.StilledLemmas.{IsGood, chain_stilled, heart}

-- ---- outcomes that count as the same

accepted_heart : (o : Outcome) (native : Bool) → accepted o native ≡ accepted (heart o) native
accepted_heart (Verdict v) native = refl
accepted_heart Native native = refl
accepted_heart (Failed program cause) native = refl

accepted_same : (o q : Outcome) → heart o ≡ heart q → (native : Bool) → accepted o native ≡ accepted q native
accepted_same o q same native =
    accepted_heart o native ∙ ap (λ (x : Outcome). accepted x native) same ∙ sym (accepted_heart q native)

preferred_heart : (o : Outcome) (old new : Candidate) → is_new_preferred o old new ≡ is_new_preferred (heart o) old new
preferred_heart (Verdict v) old new = refl
preferred_heart Native old new = refl
preferred_heart (Failed program cause) old new = refl

preferred_same : (o q : Outcome) → heart o ≡ heart q → (old new : Candidate)
    → is_new_preferred o old new ≡ is_new_preferred q old new
preferred_same o q same old new =
    preferred_heart o old new ∙ ap (λ (x : Outcome). is_new_preferred x old new) same
    ∙ sym (preferred_heart q old new)

verdict_heart : (o : Outcome) → is_verdict o ≡ is_verdict (heart o)
verdict_heart (Verdict v) = refl
verdict_heart Native = refl
verdict_heart (Failed program cause) = refl

verdict_same : (o q : Outcome) → heart o ≡ heart q → is_verdict o ≡ is_verdict q
verdict_same o q same = verdict_heart o ∙ ap (λ (x : Outcome). is_verdict x) same ∙ sym (verdict_heart q)

section_heart : (o : Outcome) (route : Route) (buffer : List ℕ)
    → section_by o route buffer ≡ section_by (heart o) route buffer
section_heart (Verdict v) route buffer = refl
section_heart Native route buffer = refl
section_heart (Failed program cause) route buffer = refl

-- what two calls leave for the speaker
record AreCalled (c d : Called) : Type 0 where
  pub outcome : heart c.outcome ≡ heart d.outcome
  pub route : c.route ≡ d.route
  pub buffer : c.buffer ≡ d.buffer

section_same : (c d : Called) → AreCalled c d → given_section c ≡ given_section d
section_same c d same =
    section_heart c.outcome c.route c.buffer
    ∙ ap (λ (x : Outcome). section_by x c.route c.buffer) same.outcome
    ∙ ap (λ (r : Route). section_by (heart d.outcome) r c.buffer) same.route
    ∙ ap (λ (b : List ℕ). section_by (heart d.outcome) d.route b) same.buffer
    ∙ sym (section_heart d.outcome d.route d.buffer)

or_right : (h f : Bool) → ((not h || f) && true) ≡ true → h ≡ true → f ≡ true
or_right true true e there = refl
or_right true false e there = absurd (cc e)
or_right false f e there = absurd (cc there)

and_true : (a b : Bool) → a ≡ true → b ≡ true → (a && b) ≡ true
and_true true b x y = y
and_true false b x y = absurd (cc x)

-- an announced prefix enters the table of its peer, or leaves it
abbrev entered : Bool → Route → ℕ → Prefix → Routed → Routed
entered enters route p prefix t =
    if enters then set_routes t p (with_value prefix_cmp (at_tables t p).adjin prefix route)
    else set_routes t p (without prefix_cmp (at_tables t p).adjin prefix)

-- the routes with other faults and other chain runs
abbrev swap : Faults → Trace → Routed → Routed
swap faults runs t = record t {
  routing = record t.routing { engine = record (t.routing).engine { faults = faults } };
  trace = runs;
}

abbrev faults_in : Routed → Faults
faults_in t = ((t.routing).engine).faults

-- a speaker with other faults
abbrev swap_speaker : Faults → Speaker → Speaker
swap_speaker faults s =
    record s { routing = record s.routing { engine = record (s.routing).engine { faults = faults } } }

-- and a turn with other chain runs as well
abbrev swap_turn : Faults → Trace → Turn → Turn
swap_turn faults runs t = record t { speaker = swap_speaker faults t.speaker; trace = runs }

abbrev faults_of_turn : Turn → Faults
faults_of_turn t = (((t.speaker).routing).engine).faults

module _ (points : List Point) (setup : Setup) (loaded : IsManifest setup.manifest) where
  abbrev other : Setup
  other = stilled points setup

  abbrev Good : Faults → Faults → Type 0
  Good first second = IsGood points setup first second

  -- each of some chain runs at the points failed
  abbrev AreFine : Trace → Type 0
  AreFine runs = all_fail points runs ≡ true

  fine-append : (a b : Trace) → AreFine (a ++ b) → AreFine a × AreFine b
  fine-append [] b fine = (refl, fine)
  fine-append (r ∷ a) b fine =
      let here = not (has_point points r.0) || is_failed r.1 in
      let parts = and_parts here (all_fail points (a ++ b)) fine in
      let rest = fine-append a b parts.1 in
      (and_true here (all_fail points a) parts.0 rest.0, rest.1)

  record AreEngines (e f : Engine) : Type 0 where
    pub maps : e.maps ≡ f.maps
    pub good : Good e.faults f.faults

  -- ---- calls

  called_stilled : (point : Point) (window : List ℕ) (w : World) (first second : Faults) → Good first second
      → record w { mark = 0 } ≡ w
      → let c = called (chain setup.manifest point window w first) in
      let d = called (chain other.manifest point window w second) in
      AreFine ((point, c.outcome) ∷ []) → AreCalled c d × AreEngines c.engine d.engine
  called_stilled point window w first second good free fine =
      let c = chain setup.manifest point window w first in
      let s = chain_stilled points setup loaded point window w first second good free
      (or_right (has_point points point) (is_failed c.outcome) fine) in (
        record {
          outcome = s.outcome;
          route = ap (λ (v : World). v.route) s.world;
          buffer = ap (λ (v : World). v.buffer) s.world;
        },
        record { maps = ap (λ (v : World). v.maps) s.world; good = s.good },
      )

  -- ---- a choice

  abbrev swap_match : Faults → Trace → Match → Match
  swap_match faults runs m = record m { engine = record m.engine { faults = faults }; trace = runs }

  record AreMatches (m n : Match) : Type 0 where
    pub faults : Faults
    pub runs : Trace
    pub is : n ≡ swap_match faults runs m
    pub good : Good (m.engine).faults faults

  module _ (local : Side) (prefix : Prefix) where
    meet_all-grows : (m : Match) (index : ℕ) (others : List Candidate)
        → AreFine (meet_all setup.manifest local prefix m index others).trace → AreFine m.trace
    meet_all-grows m index [] fine = fine
    meet_all-grows m index (new ∷ others) fine =
        (fine-append m.trace _
        (meet_all-grows (meet setup.manifest local prefix m index new) (index + 1) others fine)).0

    meet_all-stilled : (others : List Candidate) (m : Match) (index : ℕ) (faults : Faults) (runs : Trace)
        → Good (m.engine).faults faults → AreFine (meet_all setup.manifest local prefix m index others).trace
        → AreMatches (meet_all setup.manifest local prefix m index others)
        (meet_all other.manifest local prefix (swap_match faults runs m) index others)
    meet_all-stilled [] m index faults runs good fine =
        record { faults = faults; runs = runs; is = refl; good = good }
    meet_all-stilled (new ∷ others) m index faults runs good fine =
        let old = m.champion in
        let next = meet setup.manifest local prefix m index new in
        let world = world_of m.engine local nobody old.side prefix 0 old.route new.route new.side in
        let c = meeting setup.manifest local m.engine prefix old new in
        let d = meeting other.manifest local (record m.engine { faults = faults }) prefix old new in
        let here = (fine-append m.trace ((Decision, c.outcome) ∷ [])
        (meet_all-grows next (index + 1) others fine)).1 in
        let given = called_stilled Decision [] world (m.engine).faults faults good refl here in
        let after = runs ++ (Decision, d.outcome) ∷ [] in
        let made : Bool → Bool → List Mapping → Match = λ wins verdict maps. record {
          index = (if wins then index else m.index);
          champion = (if wins then new else old);
          by_program = m.by_program || verdict;
          engine = record { maps = maps; faults = (d.engine).faults };
          trace = after;
        } in
        let wins = sym (preferred_same c.outcome d.outcome (given.0).outcome old new) in
        let verdict = sym (verdict_same c.outcome d.outcome (given.0).outcome) in
        let moved : meet other.manifest local prefix (swap_match faults runs m) index new
        ≡ swap_match (d.engine).faults after next =
        ap (λ (b : Bool). made b (is_verdict d.outcome) (d.engine).maps) wins
        ∙ ap (λ (b : Bool). made (is_new_preferred c.outcome old new) b (d.engine).maps) verdict
        ∙ ap (λ (ms : List Mapping). made (is_new_preferred c.outcome old new) (is_verdict c.outcome) ms)
        (sym (given.1).maps) in
        let rest = meet_all-stilled others next (index + 1) (d.engine).faults after (given.1).good fine in
        record {
          faults = rest.faults;
          runs = rest.runs;
          is = ap (λ (n : Match). meet_all other.manifest local prefix n (index + 1) others) moved ∙ rest.is;
          good = rest.good;
        }

  choose_stilled : (prefix : Prefix) (cs : List Candidate) (engine : Engine) (faults : Faults)
      → Good engine.faults faults
      → let local = (setup.config).local in
      let x = choose setup.manifest local engine prefix cs in
      let y = choose other.manifest local (record engine { faults = faults }) prefix cs in
      AreFine x.trace → (x.index ≡ y.index) × AreEngines x.engine y.engine
  unfolding choose
  choose_stilled prefix [] engine faults good fine = (refl, record { maps = refl; good = good })
  choose_stilled prefix (c ∷ cs) engine faults good fine =
      let local = (setup.config).local in
      let m = meet_all setup.manifest local prefix (first_match engine c) 1 cs in
      let r = meet_all-stilled local prefix cs (first_match engine c) 1 faults [] good fine in (
        sym (ap (λ (n : Match). (chosen (c ∷ cs) n).index) r.is),
        record {
          maps = sym (ap (λ (n : Match). (n.engine).maps) r.is);
          good =
              subst (λ (fs : Faults). Good (m.engine).faults fs) (sym (ap (λ (n : Match). (n.engine).faults) r.is))
              r.good;
        },
      )

  -- ---- an export

  module _ (peer : Side) (wide : Bool) (source : Side) (best : Route) where
    abbrev exported_by : Setup → Bool → Called → Trace → Exported
    exported_by s accepts c runs =
        if accepts then encoded_for s.manifest (s.config).local c.engine peer wide source best c.route runs
        else record { section = None; engine = c.engine; trace = runs }

    exported_by-fine : (accepts : Bool) (c : Called) (runs : Trace) → AreFine (exported_by setup accepts c runs).trace
        → AreFine runs
    exported_by-fine true c runs fine = (fine-append runs _ fine).0
    exported_by-fine false c runs fine = fine

    exported_by-stilled : (accepts : Bool) (c d : Called) (runs later : Trace) → AreCalled c d
        → AreEngines c.engine d.engine
        → let x = exported_by setup accepts c runs in let y = exported_by other accepts d later in
        AreFine x.trace → (x.section ≡ y.section) × AreEngines x.engine y.engine
    exported_by-stilled false c d runs later same engines fine = (refl, engines)
    exported_by-stilled true c d runs later same engines fine =
        let local = (setup.config).local in
        let middle : List Mapping → Engine = λ ms. record { maps = ms; faults = (d.engine).faults } in
        let world = world_of c.engine local peer source nowhere 0 c.route best source in
        let x = encode setup.manifest local c.engine peer source best c.route in
        let y = encode other.manifest local (middle (c.engine).maps) peer source best c.route in
        let z = encode other.manifest local d.engine peer source best d.route in
        let moved : y ≡ z =
        ap (λ (r : Route). encode other.manifest local (middle (c.engine).maps) peer source best r) same.route
        ∙ ap (λ (ms : List Mapping). encode other.manifest local (middle ms) peer source best d.route)
        engines.maps in
        let given = called_stilled Encode [] world (c.engine).faults (d.engine).faults engines.good refl
        (fine-append runs _ fine).1 in
        let sections = section_same x y given.0 ∙ ap (λ (e : Called). given_section e) moved in (
          ap (λ (s : Option (List ℕ)). short_enough (wire (section_or s (native_section c.route)) wide)) sections
              ∙ ap (λ (r : Route). short_enough (wire (section_or (given_section z) (native_section r)) wide))
              same.route,
          subst (λ (e : Called). AreEngines x.engine e.engine) moved given.1,
        )

    exported_stilled : (prefix : Prefix) (engine : Engine) (faults : Faults) → Good engine.faults faults
        → let local = (setup.config).local in
        let default = (setup.config).local_pref in
        let x = exported setup.manifest local default engine peer wide source prefix best in
        let y = exported other.manifest local default (record engine { faults = faults }) peer wide source prefix
        best in
        AreFine x.trace → (x.section ≡ y.section) × AreEngines x.engine y.engine
    unfolding exported
    exported_stilled prefix engine faults good fine =
        let local = (setup.config).local in
        let carried = carry best source peer local (setup.config).local_pref in
        let world = world_of engine local peer source prefix 0 carried best source in
        let c = outbound setup.manifest local engine peer source prefix best carried in
        let d = outbound other.manifest local (record engine { faults = faults }) peer source prefix best carried in
        let native = accepts_outbound source peer in
        let accepts = accepted c.outcome native in
        let runs = (Outbound, c.outcome) ∷ [] in
        let later = (Outbound, d.outcome) ∷ [] in
        let given = called_stilled Outbound [] world engine.faults faults good refl
        (exported_by-fine accepts c runs fine) in
        let both = exported_by-stilled accepts c d runs later given.0 given.1 fine in
        let x = exported_by setup accepts c runs in
        subst (λ (b : Bool). let y = exported_by other b d later in
        (x.section ≡ y.section) × AreEngines x.engine y.engine)
        (accepted_same c.outcome d.outcome (given.0).outcome native) both

  -- ---- steps of the routes

  record Related (t u : Routed) : Type 0 where
    pub faults : Faults
    pub runs : Trace
    pub is : u ≡ swap faults runs t
    pub good : Good (faults_in t) faults

  -- what became of some routes, and of the same with other faults
  record Still (t after : Routed) (later : Faults → Trace → Routed) : Type 0 where
    pub grows : AreFine after.trace → AreFine t.trace
    pub still :
        (faults : Faults) (runs : Trace) → Good (faults_in t) faults → AreFine after.trace
        → Related after (later faults runs)

  abbrev Stills : (Routed → Routed) → (Routed → Routed) → Type 0
  Stills f g = (t : Routed) → Still t (f t) (λ faults runs. g (swap faults runs t))

  plain-still : (t after : Routed) (later : Faults → Trace → Routed) → after.trace ≡ t.trace
      → faults_in after ≡ faults_in t → ((faults : Faults) (runs : Trace) → later faults runs ≡ swap faults runs after)
      → Still t after later
  plain-still t after later trace_is faults_are moves = record {
    grows = λ fine. subst (λ (r : Trace). AreFine r) trace_is fine;
    still = λ faults runs good fine. record {
      faults = faults;
      runs = runs;
      is = moves faults runs;
      good = subst (λ (fs : Faults). Good fs faults) (sym faults_are) good;
    };
  }

  then-still : (t v : Routed) (u : Faults → Trace → Routed) (g h : Routed → Routed) → Still t v u
      → Still v (g v) (λ faults runs. h (swap faults runs v)) → Still t (g v) (λ faults runs. h (u faults runs))
  then-still t v u g h first next = record {
    grows = λ fine. first.grows (next.grows fine);
    still = λ faults runs good fine.
        let r = first.still faults runs good (next.grows fine) in
        let s = next.still r.faults r.runs r.good fine in
        record { faults = s.faults; runs = s.runs; is = ap h r.is ∙ s.is; good = s.good };
  }

  fold-still : {A : Type 0} (f g : Routed → A → Routed) → ((a : A) → Stills (λ t. f t a) (λ t. g t a))
      → (xs : List A) → Stills (λ t. fold f t xs) (λ t. fold g t xs)
  fold-still f g each [] t = plain-still t t (λ faults runs. swap faults runs t) refl refl (λ faults runs. refl)
  fold-still f g each (x ∷ xs) t =
      then-still t (f t x) (λ faults runs. g (swap faults runs t) x) (λ u. fold f u xs) (λ u. fold g u xs) (each x t)
      (fold-still f g each xs (f t x))

  if-still : (b : Bool) (t v w : Routed) (u x : Faults → Trace → Routed) → Still t v u → Still t w x
      → Still t (if b then v else w) (λ faults runs. if b then u faults runs else x faults runs)
  if-still true t v w u x first second = first
  if-still false t v w u x first second = second

  -- programs ran, and the routes go on by what they gave
  ran-still : {X : Type 0} (engine : X → Engine) (ran : X → Trace) (x : X) (y : Faults → X) (Same : X → X → Type 0)
      (f g : X → Routed → Routed) (t : Routed)
      → ((faults : Faults) → Good (faults_in t) faults → AreFine (ran x)
      → Same x (y faults) × AreEngines (engine x) (engine (y faults)))
      → ((e : X) → Same x e → (u : Routed) → g e u ≡ g x u)
      → (let v = ran_all t (engine x) (ran x) in Still v (f x v) (λ faults runs. g x (swap faults runs v)))
      → Still t (f x (ran_all t (engine x) (ran x)))
      (λ faults runs. g (y faults) (ran_all (swap faults runs t) (engine (y faults)) (ran (y faults))))
  ran-still engine ran x y Same f g t calls same rest = record {
    grows = λ fine. (fine-append t.trace (ran x) (rest.grows fine)).0;
    still = λ faults runs good fine.
        let given = calls faults good (fine-append t.trace (ran x) (rest.grows fine)).1 in
        let e = engine (y faults) in
        let all = runs ++ ran (y faults) in
        let v = ran_all t (engine x) (ran x) in
        let moved : ran_all (swap faults runs t) e (ran (y faults)) ≡ swap e.faults all v =
        ap (λ (ms : List Mapping). record {
          routing = record t.routing { engine = record { maps = ms; faults = e.faults } };
          trace = all;
        }) (sym (given.1).maps) in
        let r = rest.still e.faults all (given.1).good fine in
        record {
          faults = r.faults;
          runs = r.runs;
          is = ap (g (y faults)) moved ∙ same (y faults) given.0 (swap e.faults all v) ∙ r.is;
          good = r.good;
        };
  }

  set_adv-still : (p : ℕ) (prefix : Prefix) (section : Option (List ℕ))
      → Stills (λ t. set_adv t p prefix section) (λ t. set_adv t p prefix section)
  set_adv-still p prefix None t = plain-still t _ _ refl refl (λ faults runs. refl)
  set_adv-still p prefix (Some section) t = plain-still t _ _ refl refl (λ faults runs. refl)

  set_best-still : (prefix : Prefix) (best : Option Chosen)
      → Stills (λ t. set_best t prefix best) (λ t. set_best t prefix best)
  set_best-still prefix None t = plain-still t _ _ refl refl (λ faults runs. refl)
  set_best-still prefix (Some best) t = plain-still t _ _ refl refl (λ faults runs. refl)

  entered-still : (enters : Bool) (route : Route) (p : ℕ) (prefix : Prefix)
      → Stills (entered enters route p prefix) (entered enters route p prefix)
  entered-still true route p prefix t = plain-still t _ _ refl refl (λ faults runs. refl)
  entered-still false route p prefix t = plain-still t _ _ refl refl (λ faults runs. refl)

  module _ (sessions : List Owned) where
    decided-still : (prefix : Prefix) (cs : List Candidate)
        → Stills (λ t. decided setup sessions t prefix cs) (λ t. decided other sessions t prefix cs)
    decided-still prefix [] t = set_best-still prefix None t
    decided-still prefix (c ∷ cs) t =
        let local = (setup.config).local in
        let engine = (t.routing).engine in
        let settles : Choice → Routed → Routed =
        λ x u. set_best u prefix (Some (best_of (slice_index_or (c ∷ cs) x.index c))) in
        let x = choose setup.manifest local engine prefix (c ∷ cs) in
        ran-still (λ (z : Choice). z.engine) (λ z. z.trace) x
        (λ faults. choose other.manifest local (record engine { faults = faults }) prefix (c ∷ cs))
        (λ a b. a.index ≡ b.index) settles settles t
        (λ faults good fine. choose_stilled prefix (c ∷ cs) engine faults good fine)
        (λ e same u. ap (λ (i : ℕ). set_best u prefix (Some (best_of (slice_index_or (c ∷ cs) i c)))) (sym same))
        (set_best-still prefix (Some (best_of (slice_index_or (c ∷ cs) x.index c))) (ran_all t x.engine x.trace))

    decide-still : (prefix : Prefix)
        → Stills (λ t. decide setup sessions t prefix) (λ t. decide other sessions t prefix)
    unfolding decide
    decide-still prefix t = decided-still prefix (candidates setup sessions t prefix) t

    export_best-still : (p : ℕ) (prefix : Prefix) (best : Option Chosen)
        → Stills (λ t. export_best setup sessions t p prefix best) (λ t. export_best other sessions t p prefix best)
    export_best-still p prefix None t = set_adv-still p prefix None t
    export_best-still p prefix (Some best) t =
        let local = (setup.config).local in
        let default = (setup.config).local_pref in
        let engine = (t.routing).engine in
        let peer = side_of setup.config sessions p in
        let source = side_of setup.config sessions best.source in
        let wide = is_wide sessions p in
        let tells : Exported → Routed → Routed = λ x u. set_adv u p prefix x.section in
        let x = exported setup.manifest local default engine peer wide source prefix best.route in
        ran-still (λ (z : Exported). z.engine) (λ z. z.trace) x
        (λ faults. exported other.manifest local default (record engine { faults = faults }) peer wide source prefix
        best.route)
        (λ a b. a.section ≡ b.section) tells tells t
        (λ faults good fine. exported_stilled peer wide source best.route prefix engine faults good fine)
        (λ e same u. ap (λ (s : Option (List ℕ)). set_adv u p prefix s) (sym same))
        (set_adv-still p prefix x.section (ran_all t x.engine x.trace))

    export-still : (prefix : Prefix) (p : ℕ)
        → Stills (λ t. export setup sessions prefix t p) (λ t. export other sessions prefix t p)
    unfolding export
    export-still prefix p t =
        if-still (is_up sessions p) t _ _ _ _
        (export_best-still p prefix (value_at prefix_cmp (t.routing).best prefix) t)
        (plain-still t t (λ faults runs. swap faults runs t) refl refl (λ faults runs. refl))

    settle-still : (prefix : Prefix)
        → Stills (λ t. settle setup sessions t prefix) (λ t. settle other sessions t prefix)
    unfolding settle
    settle-still prefix t =
        then-still t (decide setup sessions t prefix) (λ faults runs. decide other sessions (swap faults runs t) prefix)
        (λ u. fold (export setup sessions prefix) u (peer_numbers sessions))
        (λ u. fold (export other sessions prefix) u (peer_numbers sessions)) (decide-still prefix t)
        (fold-still (export setup sessions prefix) (export other sessions prefix) (export-still prefix)
        (peer_numbers sessions) (decide setup sessions t prefix))

    settle_all-still : (ps : List Prefix)
        → Stills (λ t. settle_all setup sessions t ps) (λ t. settle_all other sessions t ps)
    unfolding settle_all
    settle_all-still ps t =
        fold-still (settle setup sessions) (settle other sessions) settle-still (set_of prefix_cmp ps) t

    export_all-still : (p : ℕ) → Stills (λ t. export_all setup sessions t p) (λ t. export_all other sessions t p)
    unfolding export_all
    export_all-still p t =
        fold-still (λ u prefix. export setup sessions prefix u p) (λ u prefix. export other sessions prefix u p)
        (λ prefix. export-still prefix p) (keys_of (t.routing).best) t

    announce_one-still : (now : ℕ) (route : Route) (p : ℕ) (prefix : Prefix)
        → Stills (λ t. announce_one setup sessions now route p t prefix)
        (λ t. announce_one other sessions now route p t prefix)
    unfolding announce_one
    announce_one-still now route p prefix t =
        let local = (setup.config).local in
        let engine = (t.routing).engine in
        let peer = side_of setup.config sessions p in
        let world = world_of engine local peer nobody prefix now route [] nobody in
        let enters : Called → Routed → Routed =
        λ e u. entered (accepted e.outcome (accepts_inbound e.route local)) e.route p prefix u in
        let c = inbound setup.manifest local engine now peer prefix route in
        ran-still (λ (z : Called). z.engine) (λ z. (Inbound, z.outcome) ∷ []) c
        (λ faults. inbound other.manifest local (record engine { faults = faults }) now peer prefix route)
        AreCalled enters enters t
        (λ faults good fine. called_stilled Inbound [] world engine.faults faults good refl fine)
        (λ e same u.
        ap (λ (r : Route). entered (accepted e.outcome (accepts_inbound r local)) r p prefix u) (sym same.route)
        ∙ ap (λ (b : Bool). entered b c.route p prefix u)
        (sym (accepted_same c.outcome e.outcome same.outcome (accepts_inbound c.route local))))
        (entered-still (accepted c.outcome (accepts_inbound c.route local)) c.route p prefix
        (ran_all t c.engine ((Inbound, c.outcome) ∷ [])))

    drop_all-still : (p : ℕ) (ps : List Prefix)
        → Stills (λ t. drop_all setup sessions t p ps) (λ t. drop_all other sessions t p ps)
    drop_all-still p ps t = plain-still t _ _ refl refl (λ faults runs. refl)

    -- an UPDATE that receive keeps or drops
    abbrev kept : Setup → ℕ → ℕ → List Prefix → Bool → Route → Routed → Routed
    kept s now p ps keeps route u =
        if keeps then fold (announce_one s sessions now route p) u ps else drop_all s sessions u p ps

    receive_route-still : (now p : ℕ) (body : List ℕ) (ps : List Prefix) (route : Route)
        → Stills (λ t. receive_route setup sessions now t p body ps route)
        (λ t. receive_route other sessions now t p body ps route)
    unfolding receive_route
    receive_route-still now p body ps route t =
        let local = (setup.config).local in
        let engine = (t.routing).engine in
        let peer = side_of setup.config sessions p in
        let world = world_of engine local peer nobody nowhere now route [] nobody in
        let c = receive setup.manifest local engine now peer route body in
        let v = ran_all t c.engine ((Receive, c.outcome) ∷ []) in
        ran-still (λ (z : Called). z.engine) (λ z. (Receive, z.outcome) ∷ []) c
        (λ faults. receive other.manifest local (record engine { faults = faults }) now peer route body)
        AreCalled (λ e u. kept setup now p ps (accepted e.outcome true) e.route u)
        (λ e u. kept other now p ps (accepted e.outcome true) e.route u) t
        (λ faults good fine. called_stilled Receive body world engine.faults faults good refl fine)
        (λ e same u.
        ap (λ (r : Route). kept other now p ps (accepted e.outcome true) r u) (sym same.route)
        ∙ ap (λ (b : Bool). kept other now p ps b c.route u)
        (sym (accepted_same c.outcome e.outcome same.outcome true)))
        (if-still (accepted c.outcome true) v _ _ _ _
        (fold-still (announce_one setup sessions now c.route p) (announce_one other sessions now c.route p)
        (announce_one-still now c.route p) ps v)
        (drop_all-still p ps v))

    receive_if-still : (fits : Bool) (now p : ℕ) (body : List ℕ) (ps : List Prefix) (route : Route)
        → Stills (λ t. receive_if setup sessions fits now t p body ps route)
        (λ t. receive_if other sessions fits now t p body ps route)
    receive_if-still true now p body ps route t = receive_route-still now p body ps route t
    receive_if-still false now p body ps route t = drop_all-still p ps t

    announce-still : (now p : ℕ) (body : List ℕ) (u : Update) (ps : List Prefix)
        → Stills (λ t. announce setup sessions now t p body u ps) (λ t. announce other sessions now t p body u ps)
    unfolding announce
    announce-still now p body u ps t = receive_if-still _ now p body ps _ t

    withdraw-still : (p : ℕ) (u : Update)
        → Stills (λ t. withdraw setup sessions t p u) (λ t. withdraw other sessions t p u)
    unfolding withdraw
    withdraw-still p u t =
        drop_all-still p (filter (λ w. not (list_any (same_prefix w) (prefixes u.nlri))) (prefixes u.withdrawn)) t

    routes_of-still : (now p : ℕ) (body : List ℕ) (u : Update) (ps : List Prefix)
        → Stills (λ t. routes_of setup sessions now t p body u ps) (λ t. routes_of other sessions now t p body u ps)
    routes_of-still now p body u [] t = withdraw-still p u t
    routes_of-still now p body u (prefix ∷ ps) t =
        let v = announce setup sessions now t p body u (prefix ∷ ps) in
        then-still t v (λ faults runs. announce other sessions now (swap faults runs t) p body u (prefix ∷ ps))
        (λ w. withdraw setup sessions w p u) (λ w. withdraw other sessions w p u)
        (announce-still now p body u (prefix ∷ ps) t) (withdraw-still p u v)

    update-still : (now p : ℕ) (body : List ℕ)
        → Stills (λ t. update setup sessions now t p body) (λ t. update other sessions now t p body)
    unfolding update
    update-still now p body t =
        let u = update_parts body in
        let ps = prefixes u.withdrawn ++ prefixes u.nlri in
        let v = routes_of setup sessions now t p body u (prefixes u.nlri) in
        then-still t v (λ faults runs. routes_of other sessions now (swap faults runs t) p body u (prefixes u.nlri))
        (λ w. settle_all setup sessions w ps) (λ w. settle_all other sessions w ps)
        (routes_of-still now p body u (prefixes u.nlri) t) (settle_all-still ps v)

    lose-still : (p : ℕ) → Stills (λ t. lose setup sessions t p) (λ t. lose other sessions t p)
    unfolding lose
    lose-still p t =
        let ps = keys_of (at_tables t p).adjin in
        let v = set_tables t p no_tables in
        then-still t v (λ faults runs. set_tables (swap faults runs t) p no_tables)
        (λ w. settle_all setup sessions w ps) (λ w. settle_all other sessions w ps)
        (plain-still t v (λ faults runs. swap faults runs v) refl refl (λ faults runs. refl)) (settle_all-still ps v)

  -- ---- steps of a turn

  record AreRelated (t u : Turn) : Type 0 where
    pub faults : Faults
    pub runs : Trace
    pub is : u ≡ swap_turn faults runs t
    pub good : Good (faults_of_turn t) faults

  -- what became of a turn, and of the same with other faults
  record Goes (t after : Turn) (later : Faults → Trace → Turn) : Type 0 where
    pub grows : AreFine after.trace → AreFine t.trace
    pub goes :
        (faults : Faults) (runs : Trace) → Good (faults_of_turn t) faults → AreFine after.trace
        → AreRelated after (later faults runs)

  abbrev Go : (Turn → Turn) → (Turn → Turn) → Type 0
  Go f g = (t : Turn) → Goes t (f t) (λ faults runs. g (swap_turn faults runs t))

  plain-goes : (t after : Turn) (later : Faults → Trace → Turn) → after.trace ≡ t.trace
      → faults_of_turn after ≡ faults_of_turn t
      → ((faults : Faults) (runs : Trace) → later faults runs ≡ swap_turn faults runs after) → Goes t after later
  plain-goes t after later trace_is faults_are moves = record {
    grows = λ fine. subst (λ (r : Trace). AreFine r) trace_is fine;
    goes = λ faults runs good fine. record {
      faults = faults;
      runs = runs;
      is = moves faults runs;
      good = subst (λ (fs : Faults). Good fs faults) (sym faults_are) good;
    };
  }

  stays-goes : Go (λ t. t) (λ t. t)
  stays-goes t = plain-goes t t (λ faults runs. swap_turn faults runs t) refl refl (λ faults runs. refl)

  then-goes : (t v : Turn) (u : Faults → Trace → Turn) (g h : Turn → Turn) → Goes t v u
      → Goes v (g v) (λ faults runs. h (swap_turn faults runs v)) → Goes t (g v) (λ faults runs. h (u faults runs))
  then-goes t v u g h first next = record {
    grows = λ fine. first.grows (next.grows fine);
    goes = λ faults runs good fine.
        let r = first.goes faults runs good (next.grows fine) in
        let s = next.goes r.faults r.runs r.good fine in
        record { faults = s.faults; runs = s.runs; is = ap h r.is ∙ s.is; good = s.good };
  }

  fold-goes : {A : Type 0} (f g : Turn → A → Turn) → ((a : A) → Go (λ t. f t a) (λ t. g t a)) → (xs : List A)
      → Go (λ t. fold f t xs) (λ t. fold g t xs)
  fold-goes f g each [] t = stays-goes t
  fold-goes f g each (x ∷ xs) t =
      then-goes t (f t x) (λ faults runs. g (swap_turn faults runs t) x) (λ u. fold f u xs) (λ u. fold g u xs)
      (each x t) (fold-goes f g each xs (f t x))

  if-goes : (b : Bool) (t v w : Turn) (u x : Faults → Trace → Turn) → Goes t v u → Goes t w x
      → Goes t (if b then v else w) (λ faults runs. if b then u faults runs else x faults runs)
  if-goes true t v w u x first second = first
  if-goes false t v w u x first second = second

  -- outputs, and then a step of the routes
  routes-goes : (t : Turn) (more : List Output) (r : Routed) (u : Faults → Trace → Routed) → Still (routed t) r u
      → Goes t (with_routes (gives t more) r)
      (λ faults runs. with_routes (gives (swap_turn faults runs t) more) (u faults runs))
  routes-goes t more r u s = record {
    grows = s.grows;
    goes = λ faults runs good fine.
        let x = s.still faults runs good fine in
        record {
          faults = x.faults;
          runs = x.runs;
          is = ap (with_routes (gives (swap_turn faults runs t) more)) x.is;
          good = x.good;
        };
  }

  -- a step of the routes alone
  steps-goes : (t : Turn) (r : Routed) (u : Faults → Trace → Routed) → Still (routed t) r u
      → Goes t (with_routes t r) (λ faults runs. with_routes (swap_turn faults runs t) (u faults runs))
  steps-goes t r u s = record {
    grows = s.grows;
    goes = λ faults runs good fine.
        let x = s.still faults runs good fine in
        record {
          faults = x.faults;
          runs = x.runs;
          is = ap (with_routes (swap_turn faults runs t)) x.is;
          good = x.good;
        };
  }

  control-goes : (p : ℕ) (piece : List ℕ) → Go (λ t. control setup t p piece) (λ t. control other t p piece)
  unfolding control
  control-goes p piece t = plain-goes t _ _ refl refl (λ faults runs. refl)

  act-goes : (p : ℕ) (extra : List ℕ) (a : Act) → Go (λ t. act setup p extra t a) (λ t. act other p extra t a)
  unfolding act
  act-goes p extra acts.SendOpen t = control-goes p _ t
  act-goes p extra acts.SendKeepalive t = control-goes p _ t
  act-goes p extra (acts.SendNotice code subcode) t = control-goes p _ t
  act-goes p extra acts.Up t =
      let sessions = (t.speaker).sessions in
      routes-goes t (came_up p ∷ []) (export_all setup sessions (routed t) p)
      (λ faults runs. export_all other sessions (swap faults runs (routed t)) p)
      (export_all-still sessions p (routed t))
  act-goes p extra acts.Down t =
      let sessions = (t.speaker).sessions in
      routes-goes t (went_down p ∷ []) (lose setup sessions (routed t) p)
      (λ faults runs. lose other sessions (swap faults runs (routed t)) p) (lose-still sessions p (routed t))
  act-goes p extra acts.Close t = plain-goes t _ _ refl refl (λ faults runs. refl)

  react-goes : (p : ℕ) (st : Stimulus) (extra : List ℕ)
      → Go (λ t. react setup t p st extra) (λ t. react other t p st extra)
  unfolding react
  react-goes p st extra t =
      let s = session_at t p in
      let r = row s.own s.session (t.speaker).clock st in
      let after : Owned = record s { session = r.session } in
      let v = set_session t p after in
      then-goes t v (λ faults runs. swap_turn faults runs v) (λ u. fold (act setup p extra) u r.acts)
      (λ u. fold (act other p extra) u r.acts) (plain-goes t v _ refl refl (λ faults runs. refl))
      (fold-goes (act setup p extra) (act other p extra) (act-goes p extra) r.acts v)

  refuse-goes : (p : ℕ) (n : Notification) → Go (λ t. refuse setup t p n) (λ t. refuse other t p n)
  unfolding refuse
  refuse-goes p n t = react-goes p (stimuli.Fault n.code n.subcode) n.extra t

  judged_open-goes : (p : ℕ) (body : List ℕ) (fault : Option Notification)
      → Go (λ t. judged_open setup t p body fault) (λ t. judged_open other t p body fault)
  judged_open-goes p body None t = react-goes p _ [] t
  judged_open-goes p body (Some n) t = refuse-goes p n t

  open_in-goes : (p : ℕ) (body : List ℕ) (state : State)
      → Go (λ t. open_in setup t p body state) (λ t. open_in other t p body state)
  unfolding open_in
  open_in-goes p body OpenSent t = judged_open-goes p body _ t
  open_in-goes p body Idle t = react-goes p stimuli.OpenLate [] t
  open_in-goes p body Connect t = react-goes p stimuli.OpenLate [] t
  open_in-goes p body OpenConfirm t = react-goes p stimuli.OpenLate [] t
  open_in-goes p body Established t = react-goes p stimuli.OpenLate [] t

  taken_update-goes : (p : ℕ) (body : List ℕ)
      → Go (λ t. taken_update setup t p body) (λ t. taken_update other t p body)
  taken_update-goes p body t =
      let sessions = (t.speaker).sessions in
      let now = (t.speaker).clock in
      steps-goes t (update setup sessions now (routed t) p body)
      (λ faults runs. update other sessions now (swap faults runs (routed t)) p body)
      (update-still sessions now p body (routed t))

  judged_update-goes : (p : ℕ) (body : List ℕ) (fault : Option Notification)
      → Go (λ t. judged_update setup t p body fault) (λ t. judged_update other t p body fault)
  judged_update-goes p body None t =
      let v = react setup t p stimuli.Update [] in
      then-goes t v (λ faults runs. react other (swap_turn faults runs t) p stimuli.Update [])
      (λ u. taken_update setup u p body) (λ u. taken_update other u p body) (react-goes p stimuli.Update [] t)
      (taken_update-goes p body v)
  judged_update-goes p body (Some n) t = refuse-goes p n t

  update_in-goes : (p : ℕ) (body : List ℕ) (state : State)
      → Go (λ t. update_in setup t p body state) (λ t. update_in other t p body state)
  unfolding update_in
  update_in-goes p body Established t = judged_update-goes p body _ t
  update_in-goes p body Idle t = react-goes p stimuli.Update [] t
  update_in-goes p body Connect t = react-goes p stimuli.Update [] t
  update_in-goes p body OpenSent t = react-goes p stimuli.Update [] t
  update_in-goes p body OpenConfirm t = react-goes p stimuli.Update [] t

  message_in-goes : (p : ℕ) (message : List ℕ)
      → Go (λ t. message_in setup t p message) (λ t. message_in other t p message)
  unfolding message_in
  message_in-goes p message t =
      let kind = message_kind message in
      let body = message_body message in
      if-goes (kind == OPEN) t _ _ _ _ (open_in-goes p body (state_of t p) t)
      (if-goes (kind == UPDATE) t _ _ _ _ (update_in-goes p body (state_of t p) t)
      (if-goes (kind == NOTIFICATION) t _ _ _ _ (react-goes p stimuli.Notified [] t)
      (react-goes p stimuli.Keepalive [] t)))

  front_in-goes : (f g : Turn → Turn) → Go f g → (p : ℕ) (size : Option ℕ) (fault : Option Notification)
      → Go (λ t. front_in setup f t p size fault) (λ t. front_in other g t p size fault)
  front_in-goes f g go p (Some n) fault t =
      let message = take n (wait_of t p) in
      let u = set_wait t p (drop n (wait_of t p)) in
      let v = message_in setup u p message in
      then-goes t v (λ faults runs. message_in other (swap_turn faults runs u) p message) f g
      (then-goes t u (λ faults runs. swap_turn faults runs u) (λ w. message_in setup w p message)
      (λ w. message_in other w p message) (plain-goes t u _ refl refl (λ faults runs. refl))
      (message_in-goes p message u)) (go v)
  front_in-goes f g go p None None t = stays-goes t
  front_in-goes f g go p None (Some fault) t = refuse-goes p fault t

  when_true-goes : (b : Bool) (f g : Turn → Turn) → Go f g → Go (when_true setup b f) (when_true other b g)
  when_true-goes true f g go t = go t
  when_true-goes false f g go t = stays-goes t

  take_turns-goes : (turns p : ℕ) → Go (λ t. take_turns setup turns t p) (λ t. take_turns other turns t p)
  unfolding take_turns
  take_turns-goes zero p t = stays-goes t
  take_turns-goes (suc turns) p t =
      when_true-goes (is_live (state_of t p))
      (λ u. front_in setup (λ v. take_turns setup turns v p) u p (message_size (wait_of u p))
      (front_fault (wait_of u p)))
      (λ u. front_in other (λ v. take_turns other turns v p) u p (message_size (wait_of u p))
      (front_fault (wait_of u p)))
      (λ u. front_in-goes (λ v. take_turns setup turns v p) (λ v. take_turns other turns v p)
      (take_turns-goes turns p) p (message_size (wait_of u p)) (front_fault (wait_of u p)) u) t

  octets_in-goes : (p : ℕ) (bytes : List ℕ) → Go (λ t. octets_in setup t p bytes) (λ t. octets_in other t p bytes)
  unfolding octets_in
  octets_in-goes p bytes t =
      let whole = wait_of t p ++ bytes in
      let u = set_wait t p whole in
      if-goes (is_live (state_of t p)) t _ _ _ _
      (then-goes t u (λ faults runs. swap_turn faults runs u) (λ v. take_turns setup (length whole) v p)
      (λ v. take_turns other (length whole) v p) (plain-goes t u _ refl refl (λ faults runs. refl))
      (take_turns-goes (length whole) p u)) (stays-goes t)

  set_clock-goes : (now : ℕ) → Go (λ t. set_clock t now) (λ t. set_clock t now)
  set_clock-goes now t = plain-goes t _ _ refl refl (λ faults runs. refl)

  fire_in_time-goes : (f g : Turn → Turn) → Go f g → (now : ℕ) (d : Due) (b : Bool)
      → Go (λ t. fire_in_time setup f t now d b) (λ t. fire_in_time other g t now d b)
  fire_in_time-goes f g go now d true t =
      let u = set_clock t d.at in
      let v = react setup u d.peer (stimulus_of d.timer) [] in
      then-goes t v (λ faults runs. react other (swap_turn faults runs u) d.peer (stimulus_of d.timer) []) f g
      (then-goes t u (λ faults runs. swap_turn faults runs u)
      (λ w. react setup w d.peer (stimulus_of d.timer) []) (λ w. react other w d.peer (stimulus_of d.timer) [])
      (set_clock-goes d.at t) (react-goes d.peer (stimulus_of d.timer) [] u)) (go v)
  fire_in_time-goes f g go now d false t = set_clock-goes now t

  fire_first-goes : (f g : Turn → Turn) → Go f g → (now : ℕ) (o : Option Due)
      → Go (λ t. fire_first setup f t now o) (λ t. fire_first other g t now o)
  fire_first-goes f g go now None t = set_clock-goes now t
  fire_first-goes f g go now (Some d) t = fire_in_time-goes f g go now d (nat_le d.at now) t

  time_turns-goes : (turns now : ℕ) → Go (λ t. time_turns setup turns t now) (λ t. time_turns other turns t now)
  unfolding time_turns
  time_turns-goes zero now t = set_clock-goes now t
  time_turns-goes (suc turns) now t =
      fire_first-goes (λ u. time_turns setup turns u now) (λ u. time_turns other turns u now)
      (time_turns-goes turns now) now (first_due t) t

  time_to-goes : (now : ℕ) → Go (λ t. time_to setup t now) (λ t. time_to other t now)
  unfolding time_to
  time_to-goes now t =
      time_turns-goes (2 * length (t.speaker).sessions * (now + 1 - (t.speaker).clock)) now t

  -- ---- telling

  form_next-goes : (f : Turn → Turn) → Go f f → (p : ℕ) (o : Option Formed)
      → Go (λ t. form_next f t p o) (λ t. form_next f t p o)
  form_next-goes f go p None t = stays-goes t
  form_next-goes f go p (Some x) t =
      let u = formed_rest t p x in
      then-goes t u (λ faults runs. swap_turn faults runs u) f f
      (plain-goes t u _ refl refl (λ faults runs. refl)) (go u)

  rest_or_form-goes : (rule : Packing) (f : Turn → Option ℕ → Turn)
      → ((limit : Option ℕ) → Go (λ t. f t limit) (λ t. f t limit)) → (p : ℕ) (limit : Option ℕ) (b : Bool)
      → Go (λ t. rest_or_form rule f t p limit b) (λ t. rest_or_form rule f t p limit b)
  rest_or_form-goes rule f go p limit true t =
      let u = put_rest t p limit in
      let left = less limit (length (rest_of t p)) in
      then-goes t u (λ faults runs. swap_turn faults runs u) (λ v. f v left) (λ v. f v left)
      (plain-goes t u _ refl refl (λ faults runs. refl)) (go left u)
  rest_or_form-goes rule f go p limit false t =
      form_next-goes (λ u. f u limit) (go limit) p (form rule (tables_at t p).adv (tables_at t p).told) t

  unless_spent-goes : (b : Bool) (f : Turn → Turn) → Go f f → Go (unless_spent b f) (unless_spent b f)
  unless_spent-goes true f go t = stays-goes t
  unless_spent-goes false f go t = go t

  emit_turns-goes : (rule : Packing) (turns p : ℕ) (limit : Option ℕ)
      → Go (λ t. emit_turns rule turns t p limit) (λ t. emit_turns rule turns t p limit)
  unfolding emit_turns
  emit_turns-goes rule zero p limit t = stays-goes t
  emit_turns-goes rule (suc turns) p limit t =
      unless_spent-goes (is_spent limit)
      (λ u. rest_or_form rule (λ v l. emit_turns rule turns v p l) u p limit (nat_lt 0 (length (rest_of u p))))
      (λ u. rest_or_form-goes rule (λ v l. emit_turns rule turns v p l) (emit_turns-goes rule turns p) p limit
      (nat_lt 0 (length (rest_of u p))) u) t

  emit-goes : (rule : Packing) (p : ℕ) (limit : Option ℕ)
      → Go (λ t. emit rule t p limit) (λ t. emit rule t p limit)
  unfolding emit
  emit-goes rule p limit t =
      let turns = 2 + 2 * length (pending (tables_at t p).adv (tables_at t p).told) in
      if-goes (is_up (t.speaker).sessions p) t _ _ _ _ (emit_turns-goes rule turns p limit t) (stays-goes t)

  -- ---- events

  turn-goes : (rule : Packing) (e : Event) → Go (λ t. turn rule setup t e) (λ t. turn rule other t e)
  unfolding turn
  turn-goes rule (start p) t = react-goes p stimuli.Start [] t
  turn-goes rule (stop p) t = react-goes p stimuli.Stop [] t
  turn-goes rule (up p) t = react-goes p stimuli.LinkUp [] t
  turn-goes rule (down p) t = react-goes p stimuli.LinkDown [] t
  turn-goes rule (octets p bytes) t = octets_in-goes p bytes t
  turn-goes rule (time now) t = time_to-goes now t
  turn-goes rule (room p k) t = emit-goes rule p (Some k) t
  turn-goes rule (drain p) t = emit-goes rule p None t
  turn-goes rule rescan t =
      let sessions = (t.speaker).sessions in
      let known = known_prefixes setup (t.speaker).routing in
      steps-goes t (settle_all setup sessions (routed t) known)
      (λ faults runs. settle_all other sessions (swap faults runs (routed t)) known)
      (settle_all-still sessions known (routed t))

  -- the faults of a speaker
  abbrev noted_in : Speaker → Faults
  noted_in s = ((s.routing).engine).faults

  -- what an event does to a speaker, and to one with other faults
  record AreEvent (rule : Packing) (s : Speaker) (e : Event) (faults : Faults) : Type 0 where
    pub later : Faults
    pub outputs : (event rule setup s e).outputs ≡ (event rule other (swap_speaker faults s) e).outputs
    pub speaker :
        (event rule other (swap_speaker faults s) e).speaker ≡ swap_speaker later (event rule setup s e).speaker
    pub good : Good (noted_in (event rule setup s e).speaker) later

  event_contained : (rule : Packing) (s : Speaker) (e : Event) (faults : Faults) → Good (noted_in s) faults
      → AreFine (trace rule setup s e) → AreEvent rule s e faults
  unfolding event trace
  event_contained rule s e faults good fine =
      let r = (turn-goes rule e (before s)).goes faults [] good fine in
      record {
        later = r.faults;
        outputs = sym (ap (λ (t : Turn). t.outputs) r.is);
        speaker = ap (λ (t : Turn). t.speaker) r.is;
        good = r.good;
      }

  -- speakers that are alike
  alike_is : (s t : Speaker) → AreAlike points setup.manifest s t → t ≡ swap_speaker (noted_in t) s
  alike_is s t alike = sym (ap (λ (u : Speaker). swap_speaker (noted_in t) u) alike.0)

  record Contained (rule : Packing) (s t : Speaker) (e : Event) : Type 0 where
    pub outputs : (event rule setup s e).outputs ≡ (event rule other t e).outputs
    pub alike : AreAlike points setup.manifest (event rule setup s e).speaker (event rule other t e).speaker
    pub first : AreFaults (noted_in (event rule setup s e).speaker)
    pub second : AreFaults (noted_in (event rule other t e).speaker)

  swapped_contained : (rule : Packing) (s : Speaker) (e : Event) (faults : Faults) → Good (noted_in s) faults
      → AreFine (trace rule setup s e) → Contained rule s (swap_speaker faults s) e
  swapped_contained rule s e faults good fine =
      let h = event rule setup s e in
      let r = event_contained rule s e faults good fine in
      record {
        outputs = r.outputs;
        alike = (
          sym (ap without_faults r.speaker),
          (r.good).same ∙ sym (ap (λ (u : Speaker). faults_elsewhere points setup.manifest u) r.speaker),
        );
        first = (r.good).first_sorted;
        second =
            subst (λ (u : Speaker). AreFaults (noted_in u)) (sym r.speaker) (r.good).second_sorted;
      }

  step_contained : (rule : Packing) (s t : Speaker) (e : Event) → AreFaults (noted_in s) → AreFaults (noted_in t)
      → AreAlike points setup.manifest s t → AreFine (trace rule setup s e) → Contained rule s t e
  step_contained rule s t e first second alike fine =
      subst (λ (u : Speaker). Contained rule s u e) (sym (alike_is s t alike))
      (swapped_contained rule s e (noted_in t)
      (record { first_sorted = first; second_sorted = second; same = alike.1 }) fine)

  history_contained : (rule : Packing) (es : List Event) (s t : Speaker) → AreFaults (noted_in s)
      → AreFaults (noted_in t) → AreAlike points setup.manifest s t → AllFail rule points setup s es
      → let h = history rule setup s es in let k = history rule other t es in
      (h.outputs ≡ k.outputs) × AreAlike points setup.manifest h.speaker k.speaker
  unfolding history
  history_contained rule [] s t first second alike fail = (refl, alike)
  history_contained rule (e ∷ es) s t first second alike fail =
      let step = step_contained rule s t e first second alike fail.0 in
      let h = event rule setup s e in
      let k = event rule other t e in
      let rest = history_contained rule es h.speaker k.speaker step.first step.second step.alike fail.1 in (
        ap (λ (os : List Output). os ++ (history rule setup h.speaker es).outputs) step.outputs
            ∙ ap (λ (os : List Output). k.outputs ++ os) rest.0,
        rest.1,
      )

-- ---- the faults of a reached speaker are a set

no_point : (runs : Trace) → all_fail [] runs ≡ true
no_point [] = refl
no_point (r ∷ runs) = no_point runs

module _ (rule : Packing) (setup : Setup) (loaded : IsManifest setup.manifest) where
  event_sorted : (s : Speaker) (e : Event) → AreFaults ((s.routing).engine).faults
      → AreFaults ((((event rule setup s e).speaker).routing).engine).faults
  event_sorted s e sorted =
      let faults = ((s.routing).engine).faults in
      let good : IsGood [] setup faults faults =
      record { first_sorted = sorted; second_sorted = sorted; same = refl } in
      let r = event_contained [] setup loaded rule s e faults good (no_point (trace rule setup s e)) in
      (r.good).first_sorted

  history_sorted : (es : List Event) (s : Speaker) → AreFaults ((s.routing).engine).faults
      → AreFaults ((((history rule setup s es).speaker).routing).engine).faults
  unfolding history
  history_sorted [] s sorted = sorted
  history_sorted (e ∷ es) s sorted = history_sorted es (event rule setup s e).speaker (event_sorted s e sorted)

  start_sorted : AreFaults (((start_of setup).routing).engine).faults
  unfolding IsStrictlySortedBy
  start_sorted = tt

  reached_sorted : (s : Speaker) → IsReached rule setup s → AreFaults ((s.routing).engine).faults
  reached_sorted s reached =
      subst (λ (u : Speaker). AreFaults ((u.routing).engine).faults) (sym reached.2)
      (history_sorted reached.0 (start_of setup) start_sorted)

pub contained_step_holds : contained_step
contained_step_holds rule points setup s t e accepted reached sorted configured range alike fail =
    let step = step_contained points setup accepted.1 rule s t e (reached_sorted rule setup accepted.1 s reached)
    sorted alike fail in
    (step.outputs, step.alike)

pub containment_holds : containment
containment_holds rule points setup es accepted events fail =
    let sorted = start_sorted rule setup accepted.1 in
    history_contained points setup accepted.1 rule es (start_of setup) (start_of setup) sorted sorted (refl, refl) fail

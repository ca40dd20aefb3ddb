-- What is done within an event does not depend on the outputs and chain runs before it, which stay in front.
use Rattle.std.proofs.Common.{◌≡◌, refl, ap, ◌∙◌, ℕ, zero, suc, Bool, true, false, List, [], ◌∷◌, ◌++◌, append_assoc}
use Rattle.std.proofs.Common.{Option, Some, None, fold, take, drop}
use Rattle.std.specs.Prelude.{◌==◌, if◌then◌else◌, length}
use Rattle.std.specs.Map.{keys_of}
use Rattle.std.specs.List.{slice_index_or}
use Rattle.xb_words.specs.Table.{set_of, value_at, with_value, without}
use Rattle.xb_domain.specs.declared.point.Point.TheVariants.{Receive, Inbound}
use Rattle.xb_domain.specs.Outputs.{Output, came_up, went_down}
use Rattle.xb_values.specs.Prefixes.{Prefix, prefix_cmp, prefixes}
use Rattle.xb_wire.specs.declared.numbers.TheConstants.{OPEN, UPDATE, NOTIFICATION}
use Rattle.xb_wire.specs.Messages.{Notification, Update, update_parts, message_kind, message_body, message_size}
use Rattle.xb_wire.specs.Messages.{front_fault}
use Rattle.bgp_attr.specs.Routes.{Route}
use Rattle.bgp_fsm.specs.declared.State.{State}
use Rattle.bgp_fsm.specs.declared.State.TheVariants.{Idle, Connect, OpenSent, OpenConfirm, Established}
use Rattle.bgp_fsm.specs.declared.Stimulus.{Stimulus}
use Rattle.bgp_fsm.specs.declared.Stimulus.TheVariants as stimuli
use Rattle.bgp_fsm.specs.declared.Act.{Act}
use Rattle.bgp_fsm.specs.declared.Act.TheVariants as acts
use Rattle.bgp_fsm.specs.Sessions.{Owned, row, is_live}
use Rattle.spk_native.specs.Filters.{accepts_inbound}
use Rattle.xbgp_points.specs.Points.{Engine, Called, receive, inbound}
use Rattle.spk_model.specs.declared.host.Setup.{Setup}
use Rattle.spk_model.specs.Sources.{peer_numbers, is_up, side_of}
use Rattle.spk_model.specs.Choosing.{Trace, Candidate}
use Rattle.spk_model.specs.Tournaments.{choose}
use Rattle.spk_model.specs.Exporting.{Exported, accepted}
use Rattle.spk_model.specs.Routing.{Routed, Chosen, best_of, at_tables, set_routes, set_adv, set_best, ran_all}
use Rattle.spk_model.specs.Routing.{candidates, decided}
use Rattle.spk_model.specs.Routing.{set_tables, no_tables}
use Rattle.spk_model.specs.Routing.{decide, advertise, export_best, export, settle, settle_all, export_all}
use Rattle.spk_model.specs.Routing.{announce_one}
use Rattle.spk_model.specs.Routing.{drop_all, receive_route, receive_if, announce, withdraw, routes_of, update, lose}
use Rattle.spk_model.specs.Turning.{Turn, gives, routed, with_routes, put, rest_of, control, act, react, refuse}
use Rattle.spk_model.specs.Turning.{session_at}
use Rattle.spk_model.specs.Turning.{judged_open, open_in, taken_update, judged_update, update_in, message_in, front_in}
use Rattle.spk_model.specs.Turning.{when_true, take_turns, octets_in, state_of, set_wait, wait_of, set_session}
use Rattle.spk_model.specs.Turning.{set_rest}

-- routes after some earlier chain runs
abbrev pub later : Trace → Routed → Routed
later earlier t = record t { trace = earlier ++ t.trace }

-- a step that leaves earlier chain runs in front
abbrev IsLater : (Routed → Routed) → Type 0
IsLater f = (earlier : Trace) (t : Routed) → f (later earlier t) ≡ later earlier (f t)

fold-later : {A : Type 0} (f : Routed → A → Routed) → ((a : A) → IsLater (λ t. f t a)) → (xs : List A)
    → IsLater (λ t. fold f t xs)
fold-later f keeps [] earlier t = refl
fold-later f keeps (x ∷ xs) earlier t = ap (λ (u : Routed). fold f u xs) (keeps x earlier t)
    ∙ fold-later f keeps xs earlier (f t x)

if-later : (b : Bool) (f g : Routed → Routed) → IsLater f → IsLater g → IsLater (λ t. if b then f t else g t)
if-later true f g p q earlier t = p earlier t
if-later false f g p q earlier t = q earlier t

ran_all-later : (engine : Engine) (runs : Trace) → IsLater (λ t. ran_all t engine runs)
ran_all-later engine runs earlier t =
    ap (λ (x : Trace). record { routing = record t.routing { engine = engine }; trace = x })
    (append_assoc earlier t.trace runs)

set_adv-later : (p : ℕ) (prefix : Prefix) (section : Option (List ℕ)) → IsLater (λ t. set_adv t p prefix section)
set_adv-later p prefix None earlier t = refl
set_adv-later p prefix (Some section) earlier t = refl

set_best-later : (prefix : Prefix) (best : Option Chosen) → IsLater (λ t. set_best t prefix best)
set_best-later prefix None earlier t = refl
set_best-later prefix (Some best) earlier t = refl

-- an announced prefix enters the table of its peer, or leaves it
abbrev entered : Bool → Called → ℕ → Prefix → Routed → Routed
entered enters c p prefix t =
    if enters then set_routes t p (with_value prefix_cmp (at_tables t p).adjin prefix c.route)
    else set_routes t p (without prefix_cmp (at_tables t p).adjin prefix)

entered-later : (enters : Bool) (c : Called) (p : ℕ) (prefix : Prefix) → IsLater (entered enters c p prefix)
entered-later true c p prefix earlier t = refl
entered-later false c p prefix earlier t = refl

module _ (setup : Setup) (sessions : List Owned) where
  decided-later : (prefix : Prefix) (cs : List Candidate) → IsLater (λ t. decided setup sessions t prefix cs)
  decided-later prefix [] earlier t = refl
  decided-later prefix (c ∷ cs) earlier t =
      let x = choose setup.manifest (setup.config).local (t.routing).engine prefix (c ∷ cs) in
      let best = Some (best_of (slice_index_or (c ∷ cs) x.index c)) in
      ap (λ (u : Routed). set_best u prefix best) (ran_all-later x.engine x.trace earlier t)
      ∙ set_best-later prefix best earlier (ran_all t x.engine x.trace)

  decide-later : (prefix : Prefix) → IsLater (λ t. decide setup sessions t prefix)
  unfolding decide
  decide-later prefix earlier t = decided-later prefix (candidates setup sessions t prefix) earlier t

  advertise-later : (p : ℕ) (prefix : Prefix) (x : Exported) → IsLater (λ t. advertise setup sessions t p prefix x)
  advertise-later p prefix x earlier t =
      ap (λ (u : Routed). set_adv u p prefix x.section) (ran_all-later x.engine x.trace earlier t)
      ∙ set_adv-later p prefix x.section earlier (ran_all t x.engine x.trace)

  export_best-later : (p : ℕ) (prefix : Prefix) (best : Option Chosen)
      → IsLater (λ t. export_best setup sessions t p prefix best)
  export_best-later p prefix None earlier t = refl
  export_best-later p prefix (Some best) earlier t = advertise-later p prefix _ earlier t

  export-later : (prefix : Prefix) (p : ℕ) → IsLater (λ t. export setup sessions prefix t p)
  unfolding export
  export-later prefix p earlier t =
      let best = value_at prefix_cmp (t.routing).best prefix in
      if-later (is_up sessions p) (λ u. export_best setup sessions u p prefix best) (λ u. u)
      (λ e u. export_best-later p prefix best e u) (λ e u. refl) earlier t

  settle-later : (prefix : Prefix) → IsLater (λ t. settle setup sessions t prefix)
  unfolding settle
  settle-later prefix earlier t =
      ap (λ (u : Routed). fold (export setup sessions prefix) u (peer_numbers sessions)) (decide-later prefix earlier t)
      ∙ fold-later (export setup sessions prefix) (export-later prefix) (peer_numbers sessions) earlier
      (decide setup sessions t prefix)

  settle_all-later : (ps : List Prefix) → IsLater (λ t. settle_all setup sessions t ps)
  unfolding settle_all
  settle_all-later ps earlier t = fold-later (settle setup sessions) settle-later (set_of prefix_cmp ps) earlier t

  export_all-later : (p : ℕ) → IsLater (λ t. export_all setup sessions t p)
  unfolding export_all
  export_all-later p earlier t = fold-later (λ u prefix. export setup sessions prefix u p)
      (λ prefix. export-later prefix p) (keys_of (t.routing).best) earlier t

  announce_one-later : (now : ℕ) (route : Route) (p : ℕ) (prefix : Prefix)
      → IsLater (λ t. announce_one setup sessions now route p t prefix)
  unfolding announce_one
  announce_one-later now route p prefix earlier t =
      let c = inbound setup.manifest (setup.config).local (t.routing).engine now (side_of setup.config sessions p)
      prefix route in
      let enters = accepted c.outcome (accepts_inbound c.route (setup.config).local) in
      let runs = (Inbound, c.outcome) ∷ [] in
      ap (entered enters c p prefix) (ran_all-later c.engine runs earlier t)
      ∙ entered-later enters c p prefix earlier (ran_all t c.engine runs)

  -- an UPDATE that receive keeps or drops
  abbrev kept : Bool → ℕ → Route → ℕ → List Prefix → Routed → Routed
  kept keeps now route p ps t =
      if keeps then fold (announce_one setup sessions now route p) t ps else drop_all setup sessions t p ps

  kept-later : (keeps : Bool) (now : ℕ) (route : Route) (p : ℕ) (ps : List Prefix) → IsLater (kept keeps now route p ps)
  kept-later true now route p ps earlier t =
      fold-later (announce_one setup sessions now route p) (announce_one-later now route p) ps earlier t
  kept-later false now route p ps earlier t = refl

  receive_route-later : (now p : ℕ) (body : List ℕ) (ps : List Prefix) (route : Route)
      → IsLater (λ t. receive_route setup sessions now t p body ps route)
  unfolding receive_route
  receive_route-later now p body ps route earlier t =
      let c = receive setup.manifest (setup.config).local (t.routing).engine now (side_of setup.config sessions p)
      route body in
      let keeps = accepted c.outcome true in
      let runs = (Receive, c.outcome) ∷ [] in
      ap (kept keeps now c.route p ps) (ran_all-later c.engine runs earlier t)
      ∙ kept-later keeps now c.route p ps earlier (ran_all t c.engine runs)

  receive_if-later : (fits : Bool) (now p : ℕ) (body : List ℕ) (ps : List Prefix) (route : Route)
      → IsLater (λ t. receive_if setup sessions fits now t p body ps route)
  receive_if-later true now p body ps route earlier t = receive_route-later now p body ps route earlier t
  receive_if-later false now p body ps route earlier t = refl

  announce-later : (now p : ℕ) (body : List ℕ) (u : Update) (ps : List Prefix)
      → IsLater (λ t. announce setup sessions now t p body u ps)
  unfolding announce
  announce-later now p body u ps earlier t = receive_if-later _ now p body ps _ earlier t

  withdraw-later : (p : ℕ) (u : Update) → IsLater (λ t. withdraw setup sessions t p u)
  unfolding withdraw
  withdraw-later p u earlier t = refl

  routes_of-later : (now p : ℕ) (body : List ℕ) (u : Update) (ps : List Prefix)
      → IsLater (λ t. routes_of setup sessions now t p body u ps)
  routes_of-later now p body u [] earlier t = withdraw-later p u earlier t
  routes_of-later now p body u (prefix ∷ ps) earlier t =
      ap (λ (v : Routed). withdraw setup sessions v p u) (announce-later now p body u (prefix ∷ ps) earlier t)
      ∙ withdraw-later p u earlier _

  update-later : (now p : ℕ) (body : List ℕ) → IsLater (λ t. update setup sessions now t p body)
  unfolding update
  update-later now p body earlier t =
      let u = update_parts body in
      let ps = prefixes u.withdrawn ++ prefixes u.nlri in
      ap (λ (v : Routed). settle_all setup sessions v ps) (routes_of-later now p body u (prefixes u.nlri) earlier t)
      ∙ settle_all-later ps earlier (routes_of setup sessions now t p body u (prefixes u.nlri))

  lose-later : (p : ℕ) → IsLater (λ t. lose setup sessions t p)
  unfolding lose
  lose-later p earlier t =
      settle_all-later (keys_of (at_tables t p).adjin) earlier (set_tables t p no_tables)

-- a turn after some earlier outputs and chain runs
abbrev pub after : List Output → Trace → Turn → Turn
after os runs t = record { speaker = t.speaker; outputs = os ++ t.outputs; trace = runs ++ t.trace }

-- a step that leaves earlier outputs and chain runs in front
abbrev pub IsAfter : (Turn → Turn) → Type 0
IsAfter f = (os : List Output) (runs : Trace) (t : Turn) → f (after os runs t) ≡ after os runs (f t)

pub fold-after : {A : Type 0} (f : Turn → A → Turn) → ((a : A) → IsAfter (λ t. f t a)) → (xs : List A)
    → IsAfter (λ t. fold f t xs)
fold-after f keeps [] os runs t = refl
fold-after f keeps (x ∷ xs) os runs t =
    ap (λ (u : Turn). fold f u xs) (keeps x os runs t) ∙ fold-after f keeps xs os runs (f t x)

if-after : (b : Bool) (f g : Turn → Turn) → IsAfter f → IsAfter g → IsAfter (λ t. if b then f t else g t)
if-after true f g p q os runs t = p os runs t
if-after false f g p q os runs t = q os runs t

gives-after : (more : List Output) → IsAfter (λ t. gives t more)
gives-after more os runs t =
    ap (λ (x : List Output). record { speaker = t.speaker; outputs = x; trace = runs ++ t.trace })
    (append_assoc os t.outputs more)

-- outputs, and then a step of the routes
routes-after : (more : List Output) (f : Routed → Routed) → IsLater f
    → IsAfter (λ t. with_routes (gives t more) (f (routed t)))
routes-after more f keeps os runs t =
    ap (λ (u : Turn). with_routes u (f (routed (after os runs t)))) (gives-after more os runs t)
    ∙ ap (with_routes (after os runs (gives t more))) (keeps runs (routed t))

module _ (setup : Setup) where
  control-after : (p : ℕ) (piece : List ℕ) → IsAfter (λ t. control setup t p piece)
  unfolding control
  control-after p piece os runs t =
      ap (λ (u : Turn). gives (set_rest u p []) (put p piece)) (gives-after (put p (rest_of t p)) os runs t)
      ∙ gives-after (put p piece) os runs _

  pub act-after : (p : ℕ) (extra : List ℕ) (a : Act) → IsAfter (λ t. act setup p extra t a)
  unfolding act
  act-after p extra acts.SendOpen os runs t = control-after p _ os runs t
  act-after p extra acts.SendKeepalive os runs t = control-after p _ os runs t
  act-after p extra (acts.SendNotice code subcode) os runs t = control-after p _ os runs t
  act-after p extra acts.Up os runs t =
      routes-after (came_up p ∷ []) (λ r. export_all setup (t.speaker).sessions r p)
      (export_all-later setup (t.speaker).sessions p) os runs t
  act-after p extra acts.Down os runs t =
      routes-after (went_down p ∷ []) (λ r. lose setup (t.speaker).sessions r p)
      (lose-later setup (t.speaker).sessions p) os runs t
  act-after p extra acts.Close os runs t = refl

  react-after : (p : ℕ) (stimulus : Stimulus) (extra : List ℕ) → IsAfter (λ t. react setup t p stimulus extra)
  unfolding react
  react-after p stimulus extra os runs t =
      let s = session_at t p in
      let r = row s.own s.session (t.speaker).clock stimulus in
      fold-after (act setup p extra) (act-after p extra) r.acts os runs
      (set_session t p (record s { session = r.session }))

  refuse-after : (p : ℕ) (n : Notification) → IsAfter (λ t. refuse setup t p n)
  unfolding refuse
  refuse-after p n os runs t = react-after p (stimuli.Fault n.code n.subcode) n.extra os runs t

  judged_open-after : (p : ℕ) (body : List ℕ) (fault : Option Notification)
      → IsAfter (λ t. judged_open setup t p body fault)
  judged_open-after p body None os runs t = react-after p _ [] os runs t
  judged_open-after p body (Some n) os runs t = refuse-after p n os runs t

  open_in-after : (p : ℕ) (body : List ℕ) (state : State) → IsAfter (λ t. open_in setup t p body state)
  unfolding open_in
  open_in-after p body OpenSent os runs t = judged_open-after p body _ os runs t
  open_in-after p body Idle os runs t = react-after p stimuli.OpenLate [] os runs t
  open_in-after p body Connect os runs t = react-after p stimuli.OpenLate [] os runs t
  open_in-after p body OpenConfirm os runs t = react-after p stimuli.OpenLate [] os runs t
  open_in-after p body Established os runs t = react-after p stimuli.OpenLate [] os runs t

  taken_update-after : (p : ℕ) (body : List ℕ) → IsAfter (λ t. taken_update setup t p body)
  taken_update-after p body os runs t =
      ap (with_routes (after os runs t))
      (update-later setup (t.speaker).sessions (t.speaker).clock p body runs (routed t))

  judged_update-after : (p : ℕ) (body : List ℕ) (fault : Option Notification)
      → IsAfter (λ t. judged_update setup t p body fault)
  judged_update-after p body None os runs t =
      ap (λ (u : Turn). taken_update setup u p body) (react-after p stimuli.Update [] os runs t)
      ∙ taken_update-after p body os runs _
  judged_update-after p body (Some n) os runs t = refuse-after p n os runs t

  update_in-after : (p : ℕ) (body : List ℕ) (state : State) → IsAfter (λ t. update_in setup t p body state)
  unfolding update_in
  update_in-after p body Established os runs t = judged_update-after p body _ os runs t
  update_in-after p body Idle os runs t = react-after p stimuli.Update [] os runs t
  update_in-after p body Connect os runs t = react-after p stimuli.Update [] os runs t
  update_in-after p body OpenSent os runs t = react-after p stimuli.Update [] os runs t
  update_in-after p body OpenConfirm os runs t = react-after p stimuli.Update [] os runs t

  message_in-after : (p : ℕ) (message : List ℕ) → IsAfter (λ t. message_in setup t p message)
  unfolding message_in
  message_in-after p message os runs t =
      let kind = message_kind message in
      let body = message_body message in
      let state = state_of t p in
      let others : IsAfter (λ u. if kind == NOTIFICATION then react setup u p stimuli.Notified []
      else react setup u p stimuli.Keepalive []) =
      if-after (kind == NOTIFICATION) (λ u. react setup u p stimuli.Notified [])
      (λ u. react setup u p stimuli.Keepalive []) (react-after p stimuli.Notified [])
      (react-after p stimuli.Keepalive []) in
      let rest : IsAfter (λ u. if kind == UPDATE then update_in setup u p body state
      else if kind == NOTIFICATION then react setup u p stimuli.Notified [] else react setup u p stimuli.Keepalive []) =
      if-after (kind == UPDATE) (λ u. update_in setup u p body state)
      (λ u. if kind == NOTIFICATION then react setup u p stimuli.Notified [] else react setup u p stimuli.Keepalive [])
      (update_in-after p body state) others in
      if-after (kind == OPEN) (λ u. open_in setup u p body state)
      (λ u. if kind == UPDATE then update_in setup u p body state
      else if kind == NOTIFICATION then react setup u p stimuli.Notified [] else react setup u p stimuli.Keepalive [])
      (open_in-after p body state) rest os runs t

  front_in-after : (rest : Turn → Turn) → IsAfter rest → (p : ℕ) (size : Option ℕ) (fault : Option Notification)
      → IsAfter (λ t. front_in setup rest t p size fault)
  front_in-after rest keeps p (Some n) fault os runs t =
      let message = take n (wait_of t p) in
      let u = set_wait t p (drop n (wait_of t p)) in
      ap rest (message_in-after p message os runs u) ∙ keeps os runs (message_in setup u p message)
  front_in-after rest keeps p None None os runs t = refl
  front_in-after rest keeps p None (Some fault) os runs t = refuse-after p fault os runs t

  when_true-after : (b : Bool) (go : Turn → Turn) → IsAfter go → IsAfter (when_true setup b go)
  when_true-after true go keeps os runs t = keeps os runs t
  when_true-after false go keeps os runs t = refl

  take_turns-after : (turns p : ℕ) → IsAfter (λ t. take_turns setup turns t p)
  unfolding take_turns
  take_turns-after zero p os runs t = refl
  take_turns-after (suc turns) p os runs t =
      when_true-after (is_live (state_of t p))
      (λ u. front_in setup (λ v. take_turns setup turns v p) u p (message_size (wait_of u p))
      (front_fault (wait_of u p)))
      (λ o r u. front_in-after (λ v. take_turns setup turns v p) (take_turns-after turns p) p
      (message_size (wait_of u p)) (front_fault (wait_of u p)) o r u) os runs t

  -- octets that come do what they do at the beginning of an event
  pub octets_in-after : (p : ℕ) (bytes : List ℕ) → IsAfter (λ t. octets_in setup t p bytes)
  unfolding octets_in
  octets_in-after p bytes os runs t =
      let whole = wait_of t p ++ bytes in
      if-after (is_live (state_of t p)) (λ u. take_turns setup (length whole) (set_wait u p whole) p) (λ u. u)
      (λ o r u. take_turns-after (length whole) p o r (set_wait u p whole)) (λ o r u. refl) os runs t

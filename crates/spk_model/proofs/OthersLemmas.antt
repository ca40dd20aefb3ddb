-- An event of a peer sends nothing to another, and leaves all of it but what it is advertised.
use Rattle.std.proofs.Common.{◌≡◌, ◌≢◌, refl, sym, ap, ◌∙◌, inl, inr, ℕ, zero, suc, subst, ◌+◌, ◌*◌, ◌-◌, ◌≤◌, Bool}
use Rattle.std.proofs.Common.{true, false}
use Rattle.std.proofs.Common.{List, [], ◌∷◌, ◌++◌, length, take, drop, Option, Some, None, fold, filter, arith, get_or}
use Rattle.std.proofs.lemmas.Bool.{cases_Bool, ltb-true, ltb-false, eqb-true, eqb-false}
use Rattle.std.proofs.lemmas.Grind.{flat_map-append}
use Rattle.std.proofs.lemmas.List.{get_or-set_same, get_or-set_other, set_past, append-nil}
use Rattle.std.specs.Prelude.{◌==◌, not, nat_lt, flat_map, if◌then◌else◌}
use Rattle.std.specs.Map.{keys_of}
use Rattle.std.specs.List.{list_any}
use Rattle.std.proofs.Math.ListN.{set}
use Rattle.xb_words.specs.Table.{set_of, value_at, with_value, without}
use Rattle.xb_domain.specs.declared.output.Packing.{Packing}
use Rattle.xb_domain.specs.declared.point.Point.TheVariants.{Receive, Inbound}
use Rattle.xb_domain.specs.Events.{Event, start, stop, up, down, octets, time, room, drain, rescan}
use Rattle.xb_domain.specs.Outputs.{Output, came_up, went_down}
use Rattle.xb_values.specs.Prefixes.{Prefix, Sections, prefix_cmp, prefixes}
use Rattle.xb_wire.specs.declared.numbers.TheConstants.{OPEN, UPDATE, NOTIFICATION}
use Rattle.xb_wire.specs.Messages.{Notification, Update, update_parts, message_kind, message_body, message_size}
use Rattle.xb_wire.specs.Messages.{front_fault}
use Rattle.bgp_attr.specs.Routes.{Route}
use Rattle.bgp_attr.specs.Paths.{width_of}
use Rattle.bgp_check.specs.Judgement.{judge}
use Rattle.bgp_open.specs.Opens.{judge_open4, open_seen4}
use Rattle.bgp_write.specs.Pending.{Formed, form, pending}
use Rattle.bgp_write.specs.Written.{wide_open_message, keepalive_message, notice_message}
use Rattle.bgp_fsm.specs.declared.State.{State}
use Rattle.bgp_fsm.specs.declared.State.TheVariants.{Idle, Connect, OpenSent, OpenConfirm, Established}
use Rattle.bgp_fsm.specs.declared.Stimulus.{Stimulus}
use Rattle.bgp_fsm.specs.declared.Stimulus.TheVariants as stimuli
use Rattle.bgp_fsm.specs.declared.Act.{Act}
use Rattle.bgp_fsm.specs.declared.Act.TheVariants as acts
use Rattle.bgp_fsm.specs.Sessions.{Owned, row, is_live}
use Rattle.xbgp_config.specs.Configs.{same_prefix}
use Rattle.xbgp_view.specs.Views.{Routes}
use Rattle.spk_native.specs.Filters.{accepts_inbound}
use Rattle.xbgp_points.specs.Points.{receive, inbound}
use Rattle.spk_model.specs.declared.host.Setup.{Setup}
use Rattle.spk_model.specs.Sources.{entry_of, side_of, is_up, is_wide, peer_numbers}
use Rattle.spk_model.specs.Choosing.{Candidate}
use Rattle.spk_model.specs.Exporting.{accepted}
use Rattle.spk_model.specs.Routing.{Tables, Routed, Chosen, no_tables, at_tables, set_tables, set_routes}
use Rattle.spk_model.specs.Routing.{set_adv}
use Rattle.spk_model.specs.Routing.{ran_all, set_best, without_all, candidates, decided, decide, export_best}
use Rattle.spk_model.specs.Routing.{export, settle, settle_all, export_all, announce_one, drop_all, receive_route}
use Rattle.spk_model.specs.Routing.{receive_if, announce, route_in, withdraw, routes_of, update, lose}
use Rattle.spk_model.specs.Turning.{Turn, gives, put, routed, with_routes, rest_of, set_rest, wait_of}
use Rattle.spk_model.specs.Turning.{set_wait}
use Rattle.spk_model.specs.Turning.{session_at, set_session, state_of, tables_at, control, act, react, refuse}
use Rattle.spk_model.specs.Turning.{judged_open, open_in, judged_update, update_in, message_in, front_in}
use Rattle.spk_model.specs.Turning.{when_true, take_turns, octets_in, within, less, is_spent, put_rest, formed_rest}
use Rattle.spk_model.specs.Turning.{form_next, rest_or_form, unless_spent, emit_turns, emit, turn, event, before}
use Rattle.replay_log.specs.Lines.{IsFor}
use Rattle.spk_model.specs.Laws.{own_event, is_of, octets_to}

-- ---- numbers of two peers

pub not_same : (q p : ℕ) → q ≢ p → (q == p) ≡ false
not_same q p differ =
    elim (cases_Bool (q == p)) [ inl e ↦ absurd (differ (eqb-true q p e)) | inr e ↦ e ]

pub not_near : (q p : ℕ) → 1 ≤ q → 1 ≤ p → q ≢ p → q - 1 ≢ p - 1
not_near q p some_q some_p differ e = differ (omega (arith, e, some_q, some_p))

-- ---- tables

-- what another peer's event leaves of a peer's tables
pub record Kept : Type 0 where
  pub adjin : Routes
  pub told : Sections

abbrev pub kept_of : Tables → Kept
kept_of t = record { adjin = t.adjin; told = t.told }

-- one element of a list is changed, and a part of it stays
pub part_kept : {A B : Type 0} (f : A → B) (xs : List A) (i j : ℕ) (x d : A) → f x ≡ f (get_or xs i d)
    → f (get_or (set xs i x) j d) ≡ f (get_or xs j d)
part_kept f xs i j x d same =
    elim (cases_Bool (i == j)) [
      | inr other ↦
          let differ : j ≢ i = λ e. eqb-false i j other (sym e) in
          ap f (get_or-set_other xs i j x d differ)
      | inl e ↦
          let here : i ≡ j = eqb-true i j e in
          elim (cases_Bool (nat_lt i (length xs))) [
            | inl fits ↦
                rw (← here) (ap f (get_or-set_same xs i x d (ltb-true i (length xs) fits)) ∙ same)
            | inr past ↦
                ap (λ (ys : List _). f (get_or ys j d)) (set_past xs i x (ltb-false i (length xs) past))
          ]
    ]

module _ (q : ℕ) where
  -- what is left of the peer q
  abbrev pub left_in : Routed → Kept
  left_in t = kept_of (at_tables t q)

  -- a step that leaves it
  abbrev pub IsSafe : (Routed → Routed) → Type 0
  IsSafe f = (t : Routed) → left_in (f t) ≡ left_in t

  fold-safe : {A : Type 0} (f : Routed → A → Routed) → ((a : A) → IsSafe (λ t. f t a)) → (xs : List A)
      → IsSafe (λ t. fold f t xs)
  fold-safe f safe [] t = refl
  fold-safe f safe (x ∷ xs) t = fold-safe f safe xs (f t x) ∙ safe x t

  if-safe : (b : Bool) (f g : Routed → Routed) → IsSafe f → IsSafe g → IsSafe (λ t. if b then f t else g t)
  if-safe true f g x y t = x t
  if-safe false f g x y t = y t

  set_adv-safe : (p : ℕ) (prefix : Prefix) (section : Option (List ℕ)) → IsSafe (λ t. set_adv t p prefix section)
  set_adv-safe p prefix None t =
      part_kept kept_of (t.routing).tables (p - 1) (q - 1)
      (record (at_tables t p) { adv = without prefix_cmp (at_tables t p).adv prefix }) no_tables refl
  set_adv-safe p prefix (Some section) t =
      part_kept kept_of (t.routing).tables (p - 1) (q - 1)
      (record (at_tables t p) { adv = with_value prefix_cmp (at_tables t p).adv prefix section }) no_tables refl

  set_best-safe : (prefix : Prefix) (best : Option Chosen) → IsSafe (λ t. set_best t prefix best)
  set_best-safe prefix None t = refl
  set_best-safe prefix (Some best) t = refl

  module _ (setup : Setup) (sessions : List Owned) where
    decided-safe : (prefix : Prefix) (cs : List Candidate) → IsSafe (λ t. decided setup sessions t prefix cs)
    decided-safe prefix [] t = refl
    decided-safe prefix (c ∷ cs) t = refl

    decide-safe : (prefix : Prefix) → IsSafe (λ t. decide setup sessions t prefix)
    unfolding decide
    decide-safe prefix t = decided-safe prefix (candidates setup sessions t prefix) t

    export_best-safe : (p : ℕ) (prefix : Prefix) (best : Option Chosen)
        → IsSafe (λ t. export_best setup sessions t p prefix best)
    export_best-safe p prefix None t = set_adv-safe p prefix None t
    export_best-safe p prefix (Some best) t = set_adv-safe p prefix _ (ran_all t _ _)

    export-safe : (prefix : Prefix) (p : ℕ) → IsSafe (λ t. export setup sessions prefix t p)
    unfolding export
    export-safe prefix p t =
        let best = value_at prefix_cmp (t.routing).best prefix in
        if-safe (is_up sessions p) (λ u. export_best setup sessions u p prefix best) (λ u. u)
        (λ u. export_best-safe p prefix best u) (λ u. refl) t

    settle-safe : (prefix : Prefix) → IsSafe (λ t. settle setup sessions t prefix)
    unfolding settle
    settle-safe prefix t =
        fold-safe (export setup sessions prefix) (export-safe prefix) (peer_numbers sessions)
        (decide setup sessions t prefix)
        ∙ decide-safe prefix t

    pub settle_all-safe : (ps : List Prefix) → IsSafe (λ t. settle_all setup sessions t ps)
    unfolding settle_all
    settle_all-safe ps t = fold-safe (settle setup sessions) settle-safe (set_of prefix_cmp ps) t

    pub export_all-safe : (p : ℕ) → IsSafe (λ t. export_all setup sessions t p)
    unfolding export_all
    export_all-safe p t = fold-safe (λ u prefix. export setup sessions prefix u p) (λ prefix. export-safe prefix p)
        (keys_of (t.routing).best) t

    -- ---- steps of another peer

    module _ (p : ℕ) (apart : q - 1 ≢ p - 1) where
      set_tables-safe : (x : Tables) → IsSafe (λ t. set_tables t p x)
      set_tables-safe x t = ap kept_of (get_or-set_other (t.routing).tables (p - 1) (q - 1) x no_tables apart)

      set_routes-safe : (x : Routes) → IsSafe (λ t. set_routes t p x)
      set_routes-safe x t = set_tables-safe (record (at_tables t p) { adjin = x }) t

      announce_one-safe : (now : ℕ) (route : Route) (prefix : Prefix)
          → IsSafe (λ t. announce_one setup sessions now route p t prefix)
      unfolding announce_one
      announce_one-safe now route prefix t =
          let c = inbound setup.manifest (setup.config).local (t.routing).engine now
          (side_of setup.config sessions p) prefix route in
          let u = ran_all t c.engine ((Inbound, c.outcome) ∷ []) in
          if-safe (accepted c.outcome (accepts_inbound c.route (setup.config).local))
          (λ v. set_routes v p (with_value prefix_cmp (at_tables v p).adjin prefix c.route))
          (λ v. set_routes v p (without prefix_cmp (at_tables v p).adjin prefix))
          (λ v. set_routes-safe (with_value prefix_cmp (at_tables v p).adjin prefix c.route) v)
          (λ v. set_routes-safe (without prefix_cmp (at_tables v p).adjin prefix) v) u

      drop_all-safe : (ps : List Prefix) → IsSafe (λ t. drop_all setup sessions t p ps)
      drop_all-safe ps t = set_routes-safe (without_all (at_tables t p).adjin ps) t

      receive_route-safe : (now : ℕ) (body : List ℕ) (ps : List Prefix) (route : Route)
          → IsSafe (λ t. receive_route setup sessions now t p body ps route)
      unfolding receive_route
      receive_route-safe now body ps route t =
          let c = receive setup.manifest (setup.config).local (t.routing).engine now
          (side_of setup.config sessions p) route body in
          let u = ran_all t c.engine ((Receive, c.outcome) ∷ []) in
          if-safe (accepted c.outcome true) (λ v. fold (announce_one setup sessions now c.route p) v ps)
          (λ v. drop_all setup sessions v p ps)
          (fold-safe (announce_one setup sessions now c.route p) (announce_one-safe now c.route) ps)
          (drop_all-safe ps) u

      receive_if-safe : (fits : Bool) (now : ℕ) (body : List ℕ) (ps : List Prefix) (route : Route)
          → IsSafe (λ t. receive_if setup sessions fits now t p body ps route)
      receive_if-safe true now body ps route t = receive_route-safe now body ps route t
      receive_if-safe false now body ps route t = drop_all-safe ps t

      announce-safe : (now : ℕ) (body : List ℕ) (u : Update) (ps : List Prefix)
          → IsSafe (λ t. announce setup sessions now t p body u ps)
      unfolding announce
      announce-safe now body u ps t = receive_if-safe _ now body ps (route_in setup sessions p u.section) t

      withdraw-safe : (u : Update) → IsSafe (λ t. withdraw setup sessions t p u)
      unfolding withdraw
      withdraw-safe u t =
          drop_all-safe (filter (λ w. not (list_any (same_prefix w) (prefixes u.nlri))) (prefixes u.withdrawn)) t

      routes_of-safe : (now : ℕ) (body : List ℕ) (u : Update) (ps : List Prefix)
          → IsSafe (λ t. routes_of setup sessions now t p body u ps)
      routes_of-safe now body u [] t = withdraw-safe u t
      routes_of-safe now body u (prefix ∷ ps) t =
          withdraw-safe u (announce setup sessions now t p body u (prefix ∷ ps))
          ∙ announce-safe now body u (prefix ∷ ps) t

      update-safe : (now : ℕ) (body : List ℕ) → IsSafe (λ t. update setup sessions now t p body)
      unfolding update
      update-safe now body t =
          let u = update_parts body in
          settle_all-safe (prefixes u.withdrawn ++ prefixes u.nlri)
          (routes_of setup sessions now t p body u (prefixes u.nlri))
          ∙ routes_of-safe now body u (prefixes u.nlri) t

      lose-safe : IsSafe (λ t. lose setup sessions t p)
      unfolding lose
      lose-safe t =
          settle_all-safe (keys_of (at_tables t p).adjin) (set_tables t p no_tables) ∙ set_tables-safe no_tables t

-- ---- sessions

-- what another peer's event leaves of a peer, and what the peer was sent
pub record Seen : Type 0 where
  pub session : Owned
  pub rest : List ℕ
  pub wait : List ℕ
  pub tables : Kept
  pub octets : List ℕ

module _ (q : ℕ) where
  abbrev pub seen : Turn → Seen
  seen t = record {
    session = session_at t q;
    rest = rest_of t q;
    wait = wait_of t q;
    tables = kept_of (tables_at t q);
    octets = flat_map (octets_to q) t.outputs;
  }

  -- a step that leaves it
  abbrev pub IsUnseen : (Turn → Turn) → Type 0
  IsUnseen f = (t : Turn) → seen (f t) ≡ seen t

  fold-unseen : {A : Type 0} (f : Turn → A → Turn) → ((a : A) → IsUnseen (λ t. f t a)) → (xs : List A)
      → IsUnseen (λ t. fold f t xs)
  fold-unseen f unseen [] t = refl
  fold-unseen f unseen (x ∷ xs) t = fold-unseen f unseen xs (f t x) ∙ unseen x t

  if-unseen : (b : Bool) (f g : Turn → Turn) → IsUnseen f → IsUnseen g → IsUnseen (λ t. if b then f t else g t)
  if-unseen true f g x y t = x t
  if-unseen false f g x y t = y t

  -- outputs that are not for the peer
  gives-unseen : (os : List Output) → flat_map (octets_to q) os ≡ [] → IsUnseen (λ t. gives t os)
  gives-unseen os none t =
      ap (λ (bytes : List ℕ). record {
        session = session_at t q;
        rest = rest_of t q;
        wait = wait_of t q;
        tables = kept_of (tables_at t q);
        octets = bytes;
      })
      (flat_map-append (octets_to q) t.outputs os
      ∙ ap (λ (bytes : List ℕ). flat_map (octets_to q) t.outputs ++ bytes) none
      ∙ append-nil (flat_map (octets_to q) t.outputs))

  -- a step of the routes
  routes-unseen : (f : Routed → Routed) → IsSafe q f → IsUnseen (λ t. with_routes t (f (routed t)))
  routes-unseen f safe t =
      ap (λ (k : Kept). record {
        session = session_at t q;
        rest = rest_of t q;
        wait = wait_of t q;
        tables = k;
        octets = flat_map (octets_to q) t.outputs;
      }) (safe (routed t))

  module _ (setup : Setup) (p : ℕ) (other : (q == p) ≡ false) (apart : q - 1 ≢ p - 1) where
    put-other : (piece : List ℕ) → flat_map (octets_to q) (put p piece) ≡ []
    put-other [] = refl
    put-other (b ∷ piece) = ap (λ (c : Bool). (if c then b ∷ piece else []) ++ []) other

    put-unseen : (piece : List ℕ) → IsUnseen (λ t. gives t (put p piece))
    put-unseen piece t = gives-unseen (put p piece) (put-other piece) t

    set_rest-unseen : (piece : List ℕ) → IsUnseen (λ t. set_rest t p piece)
    set_rest-unseen piece t =
        ap (λ (bytes : List ℕ). record {
          session = session_at t q;
          rest = bytes;
          wait = wait_of t q;
          tables = kept_of (tables_at t q);
          octets = flat_map (octets_to q) t.outputs;
        })
        (get_or-set_other (t.speaker).rests (p - 1) (q - 1) piece [] apart)

    set_wait-unseen : (piece : List ℕ) → IsUnseen (λ t. set_wait t p piece)
    set_wait-unseen piece t =
        ap (λ (bytes : List ℕ). record {
          session = session_at t q;
          rest = rest_of t q;
          wait = bytes;
          tables = kept_of (tables_at t q);
          octets = flat_map (octets_to q) t.outputs;
        })
        (get_or-set_other (t.speaker).waits (p - 1) (q - 1) piece [] apart)

    set_session-unseen : (s : Owned) → IsUnseen (λ t. set_session t p s)
    set_session-unseen s t =
        ap (λ (o : Owned). record {
          session = o;
          rest = rest_of t q;
          wait = wait_of t q;
          tables = kept_of (tables_at t q);
          octets = flat_map (octets_to q) t.outputs;
        })
        (get_or-set_other (t.speaker).sessions (p - 1) (q - 1) s _ apart)

    control-unseen : (piece : List ℕ) → IsUnseen (λ t. control setup t p piece)
    unfolding control
    control-unseen piece t =
        let u = gives t (put p (rest_of t p)) in
        put-unseen piece (set_rest u p []) ∙ set_rest-unseen [] u ∙ put-unseen (rest_of t p) t

    act-unseen : (extra : List ℕ) (a : Act) → IsUnseen (λ t. act setup p extra t a)
    unfolding act
    act-unseen extra acts.SendOpen t =
        control-unseen (wide_open_message ((setup.config).local).asn (setup.config).hold ((setup.config).local).id) t
    act-unseen extra acts.SendKeepalive t = control-unseen keepalive_message t
    act-unseen extra (acts.SendNotice code subcode) t = control-unseen (notice_message code subcode extra) t
    act-unseen extra acts.Up t =
        routes-unseen (λ r. export_all setup (t.speaker).sessions r p) (export_all-safe q setup (t.speaker).sessions p)
        (gives t (came_up p ∷ []))
        ∙ gives-unseen (came_up p ∷ []) refl t
    act-unseen extra acts.Down t =
        routes-unseen (λ r. lose setup (t.speaker).sessions r p) (lose-safe q setup (t.speaker).sessions p apart)
        (gives t (went_down p ∷ []))
        ∙ gives-unseen (went_down p ∷ []) refl t
    act-unseen extra acts.Close t = set_wait-unseen [] (set_rest t p []) ∙ set_rest-unseen [] t

    pub react-unseen : (st : Stimulus) (extra : List ℕ) → IsUnseen (λ t. react setup t p st extra)
    unfolding react
    react-unseen st extra t =
        let s = session_at t p in
        let r = row s.own s.session (t.speaker).clock st in
        let after : Owned = record s { session = r.session } in
        fold-unseen (act setup p extra) (act-unseen extra) r.acts (set_session t p after) ∙ set_session-unseen after t

    refuse-unseen : (n : Notification) → IsUnseen (λ t. refuse setup t p n)
    unfolding refuse
    refuse-unseen n t = react-unseen (stimuli.Fault n.code n.subcode) n.extra t

    judged_open-unseen : (body : List ℕ) (f : Option Notification) → IsUnseen (λ t. judged_open setup t p body f)
    judged_open-unseen body None t =
        react-unseen (stimuli.OpenGood (open_seen4 body).hold (open_seen4 body).id (open_seen4 body).wide) [] t
    judged_open-unseen body (Some n) t = refuse-unseen n t

    open_in-unseen : (body : List ℕ) (s : State) → IsUnseen (λ t. open_in setup t p body s)
    unfolding open_in
    open_in-unseen body OpenSent t = judged_open-unseen body (judge_open4 body (entry_of setup.config p).asn) t
    open_in-unseen body Idle t = react-unseen stimuli.OpenLate [] t
    open_in-unseen body Connect t = react-unseen stimuli.OpenLate [] t
    open_in-unseen body OpenConfirm t = react-unseen stimuli.OpenLate [] t
    open_in-unseen body Established t = react-unseen stimuli.OpenLate [] t

    judged_update-unseen : (body : List ℕ) (f : Option Notification) → IsUnseen (λ t. judged_update setup t p body f)
    judged_update-unseen body None t =
        let u = react setup t p stimuli.Update [] in
        routes-unseen (λ r. update setup (u.speaker).sessions (u.speaker).clock r p body)
        (update-safe q setup (u.speaker).sessions p apart (u.speaker).clock body) u
        ∙ react-unseen stimuli.Update [] t
    judged_update-unseen body (Some n) t = refuse-unseen n t

    update_in-unseen : (body : List ℕ) (s : State) → IsUnseen (λ t. update_in setup t p body s)
    unfolding update_in
    update_in-unseen body Established t =
        judged_update-unseen body (judge (width_of (is_wide (t.speaker).sessions p)) body) t
    update_in-unseen body Idle t = react-unseen stimuli.Update [] t
    update_in-unseen body Connect t = react-unseen stimuli.Update [] t
    update_in-unseen body OpenSent t = react-unseen stimuli.Update [] t
    update_in-unseen body OpenConfirm t = react-unseen stimuli.Update [] t

    message_in-unseen : (message : List ℕ) → IsUnseen (λ t. message_in setup t p message)
    unfolding message_in
    message_in-unseen message t =
        let kind = message_kind message in
        let body = message_body message in
        let state = state_of t p in
        let others : IsUnseen (λ u. if kind == NOTIFICATION then react setup u p stimuli.Notified []
        else react setup u p stimuli.Keepalive []) =
        if-unseen (kind == NOTIFICATION) (λ u. react setup u p stimuli.Notified [])
        (λ u. react setup u p stimuli.Keepalive []) (react-unseen stimuli.Notified [])
        (react-unseen stimuli.Keepalive []) in
        let rest : IsUnseen (λ u. if kind == UPDATE then update_in setup u p body state
        else if kind == NOTIFICATION then react setup u p stimuli.Notified []
        else react setup u p stimuli.Keepalive []) =
        if-unseen (kind == UPDATE) (λ u. update_in setup u p body state)
        (λ u. if kind == NOTIFICATION then react setup u p stimuli.Notified []
        else react setup u p stimuli.Keepalive []) (update_in-unseen body state) others in
        if-unseen (kind == OPEN) (λ u. open_in setup u p body state)
        (λ u. if kind == UPDATE then update_in setup u p body state
        else if kind == NOTIFICATION then react setup u p stimuli.Notified []
        else react setup u p stimuli.Keepalive []) (open_in-unseen body state) rest t

    front_in-unseen : (rest : Turn → Turn) → IsUnseen rest → (size : Option ℕ) (fault : Option Notification)
        → IsUnseen (λ t. front_in setup rest t p size fault)
    front_in-unseen rest unseen (Some n) fault t =
        let u = set_wait t p (drop n (wait_of t p)) in
        let message = take n (wait_of t p) in
        unseen (message_in setup u p message) ∙ message_in-unseen message u ∙ set_wait-unseen (drop n (wait_of t p)) t
    front_in-unseen rest unseen None None t = refl
    front_in-unseen rest unseen None (Some fault) t = refuse-unseen fault t

    when_true-unseen : (b : Bool) (go : Turn → Turn) → IsUnseen go → IsUnseen (when_true setup b go)
    when_true-unseen true go unseen t = unseen t
    when_true-unseen false go unseen t = refl

    take_turns-unseen : (turns : ℕ) → IsUnseen (λ t. take_turns setup turns t p)
    unfolding take_turns
    take_turns-unseen zero t = refl
    take_turns-unseen (suc turns) t =
        when_true-unseen (is_live (state_of t p))
        (λ u. front_in setup (λ v. take_turns setup turns v p) u p (message_size (wait_of u p))
        (front_fault (wait_of u p)))
        (λ u. front_in-unseen (λ v. take_turns setup turns v p) (take_turns-unseen turns)
        (message_size (wait_of u p)) (front_fault (wait_of u p)) u) t

    octets_in-unseen : (bytes : List ℕ) → IsUnseen (λ t. octets_in setup t p bytes)
    unfolding octets_in
    octets_in-unseen bytes t =
        let whole = wait_of t p ++ bytes in
        if-unseen (is_live (state_of t p)) (λ u. take_turns setup (length whole) (set_wait u p whole) p) (λ u. u)
        (λ u. take_turns-unseen (length whole) (set_wait u p whole) ∙ set_wait-unseen whole u) (λ u. refl) t

    -- ---- telling

    put_rest-unseen : (limit : Option ℕ) → IsUnseen (λ t. put_rest t p limit)
    put_rest-unseen limit t =
        let out = within limit (rest_of t p) in
        set_rest-unseen (drop (length out) (rest_of t p)) (gives t (put p out)) ∙ put-unseen out t

    formed_rest-unseen : (f : Formed) → IsUnseen (λ t. formed_rest t p f)
    formed_rest-unseen f t =
        let tables = record (tables_at t p) { told = f.told } in
        let u = with_routes t (set_tables (routed t) p tables) in
        set_rest-unseen f.message u
        ∙ routes-unseen (λ r. set_tables r p tables) (set_tables-safe q setup [] p apart tables) t

    form_next-unseen : (rest : Turn → Turn) → IsUnseen rest → (f : Option Formed)
        → IsUnseen (λ t. form_next rest t p f)
    form_next-unseen rest unseen None t = refl
    form_next-unseen rest unseen (Some f) t = unseen (formed_rest t p f) ∙ formed_rest-unseen f t

    rest_or_form-unseen : (rule : Packing) (rest : Turn → Option ℕ → Turn)
        → ((limit : Option ℕ) → IsUnseen (λ t. rest t limit)) → (limit : Option ℕ) (b : Bool)
        → IsUnseen (λ t. rest_or_form rule rest t p limit b)
    rest_or_form-unseen rule rest unseen limit true t =
        unseen (less limit (length (rest_of t p))) (put_rest t p limit) ∙ put_rest-unseen limit t
    rest_or_form-unseen rule rest unseen limit false t =
        form_next-unseen (λ u. rest u limit) (unseen limit) (form rule (tables_at t p).adv (tables_at t p).told) t

    unless_spent-unseen : (b : Bool) (go : Turn → Turn) → IsUnseen go → IsUnseen (unless_spent b go)
    unless_spent-unseen true go unseen t = refl
    unless_spent-unseen false go unseen t = unseen t

    emit_turns-unseen : (rule : Packing) (turns : ℕ) (limit : Option ℕ)
        → IsUnseen (λ t. emit_turns rule turns t p limit)
    unfolding emit_turns
    emit_turns-unseen rule zero limit t = refl
    emit_turns-unseen rule (suc turns) limit t =
        unless_spent-unseen (is_spent limit)
        (λ u. rest_or_form rule (λ v l. emit_turns rule turns v p l) u p limit (nat_lt 0 (length (rest_of u p))))
        (λ u. rest_or_form-unseen rule (λ v l. emit_turns rule turns v p l) (emit_turns-unseen rule turns) limit
        (nat_lt 0 (length (rest_of u p))) u) t

    pub emit-unseen : (rule : Packing) (limit : Option ℕ) → IsUnseen (λ t. emit rule t p limit)
    unfolding emit
    emit-unseen rule limit t =
        let turns = 2 + 2 * length (pending (tables_at t p).adv (tables_at t p).told) in
        if-unseen (is_up (t.speaker).sessions p) (λ u. emit_turns rule turns u p limit) (λ u. u)
        (emit_turns-unseen rule turns limit) (λ u. refl) t

-- an event of a peer, seen by another
turn-unseen : (rule : Packing) (setup : Setup) (p q : ℕ) (e : Event) → is_of p e ≡ true → 1 ≤ p → 1 ≤ q → q ≢ p
    → (t : Turn) → seen q (turn rule setup t e) ≡ seen q t
unfolding turn
turn-unseen rule setup p q (start r) of_p some_p some_q differ t =
    subst (λ (n : ℕ). seen q (react setup t n stimuli.Start []) ≡ seen q t) (eqb-true p r of_p)
    (react-unseen q setup p (not_same q p differ) (not_near q p some_q some_p differ) stimuli.Start [] t)
turn-unseen rule setup p q (stop r) of_p some_p some_q differ t =
    subst (λ (n : ℕ). seen q (react setup t n stimuli.Stop []) ≡ seen q t) (eqb-true p r of_p)
    (react-unseen q setup p (not_same q p differ) (not_near q p some_q some_p differ) stimuli.Stop [] t)
turn-unseen rule setup p q (up r) of_p some_p some_q differ t =
    subst (λ (n : ℕ). seen q (react setup t n stimuli.LinkUp []) ≡ seen q t) (eqb-true p r of_p)
    (react-unseen q setup p (not_same q p differ) (not_near q p some_q some_p differ) stimuli.LinkUp [] t)
turn-unseen rule setup p q (down r) of_p some_p some_q differ t =
    subst (λ (n : ℕ). seen q (react setup t n stimuli.LinkDown []) ≡ seen q t) (eqb-true p r of_p)
    (react-unseen q setup p (not_same q p differ) (not_near q p some_q some_p differ) stimuli.LinkDown [] t)
turn-unseen rule setup p q (octets r bytes) of_p some_p some_q differ t =
    subst (λ (n : ℕ). seen q (octets_in setup t n bytes) ≡ seen q t) (eqb-true p r of_p)
    (octets_in-unseen q setup p (not_same q p differ) (not_near q p some_q some_p differ) bytes t)
turn-unseen rule setup p q (room r k) of_p some_p some_q differ t =
    subst (λ (n : ℕ). seen q (emit rule t n (Some k)) ≡ seen q t) (eqb-true p r of_p)
    (emit-unseen q setup p (not_same q p differ) (not_near q p some_q some_p differ) rule (Some k) t)
turn-unseen rule setup p q (drain r) of_p some_p some_q differ t =
    subst (λ (n : ℕ). seen q (emit rule t n None) ≡ seen q t) (eqb-true p r of_p)
    (emit-unseen q setup p (not_same q p differ) (not_near q p some_q some_p differ) rule None t)
turn-unseen rule setup p q (time now) of_p some_p some_q differ t = cc of_p
turn-unseen rule setup p q rescan of_p some_p some_q differ t = cc of_p

-- the number of a peer whose event may come
least_of : (peers now p : ℕ) (e : Event) → is_of p e ≡ true → IsFor peers now e → 1 ≤ p
least_of peers now p (start r) of_p fits = omega (arith, eqb-true p r of_p, fits.0)
least_of peers now p (stop r) of_p fits = omega (arith, eqb-true p r of_p, fits.0)
least_of peers now p (up r) of_p fits = omega (arith, eqb-true p r of_p, fits.0)
least_of peers now p (down r) of_p fits = omega (arith, eqb-true p r of_p, fits.0)
least_of peers now p (octets r bytes) of_p fits = omega (arith, eqb-true p r of_p, fits.0)
least_of peers now p (room r k) of_p fits = omega (arith, eqb-true p r of_p, fits.0)
least_of peers now p (drain r) of_p fits = omega (arith, eqb-true p r of_p, fits.0)
least_of peers now p (time t) of_p fits = cc of_p
least_of peers now p rescan of_p fits = cc of_p

-- an event of a peer leaves the others
pub own_event_holds : own_event
unfolding event
own_event_holds rule setup s p q e configured of_p peer differ =
    let least = least_of (length (setup.config).peers) s.clock p e of_p configured in
    let k = turn-unseen rule setup p q e of_p least peer.0 differ (before s) in (
      ap (λ (x : Seen). x.octets) k,
      record {
        session = ap (λ (x : Seen). x.session) k;
        rest = ap (λ (x : Seen). x.rest) k;
        wait = ap (λ (x : Seen). x.wait) k;
        told = ap (λ (x : Seen). (x.tables).told) k;
        adjin = ap (λ (x : Seen). (x.tables).adjin) k;
      },
    )

-- What is done within an event does not depend on what peers were told, and so not on how prefixes are packed.
use Rattle.std.proofs.Common.{◌≡◌, refl, sym, ap, ◌∙◌, ℕ, zero, suc, ◌+◌, ◌*◌, ◌-◌, Bool, true, false, List, [], ◌∷◌}
use Rattle.std.proofs.Common.{◌++◌, Option, Some, None, fold, get_or, map, take, drop, inl, inr}
use Rattle.std.proofs.lemmas.Bool.{cases_Bool}
use Rattle.std.proofs.lemmas.List.{append-nil}
use Rattle.std.proofs.lemmas.List.Elements.{filter-append}
use Rattle.std.proofs.Math.ListN.{set}
use Rattle.std.specs.Prelude.{◌==◌, if◌then◌else◌, filter, filter_map, flat_map, length, nat_le, nat_lt, not}
use Rattle.std.specs.Option.{option_map}
use Rattle.std.specs.Map.{keys_of}
use Rattle.std.specs.List.{cons_option, list_any}
use Rattle.xb_words.specs.Table.{set_of, value_at, with_value, without}
use Rattle.xb_domain.specs.declared.output.Packing.{Packing}
use Rattle.xb_domain.specs.declared.output.Packing.TheVariants.{Grouped, Sorted}
use Rattle.xb_domain.specs.declared.point.Point.TheVariants.{Receive, Inbound}
use Rattle.xb_domain.specs.Events.{Event, start, stop, up, down, octets, time, room, drain, rescan}
use Rattle.xb_domain.specs.Outputs.{Output, came_up, went_down}
use Rattle.xb_values.specs.Prefixes.{Prefix, prefix_cmp, prefixes}
use Rattle.xb_wire.specs.declared.numbers.TheConstants.{OPEN, UPDATE, NOTIFICATION}
use Rattle.xb_wire.specs.Messages.{Notification, Update, update_parts, message_kind, message_body, message_size}
use Rattle.xb_wire.specs.Messages.{front_fault}
use Rattle.bgp_attr.specs.Routes.{Route}
use Rattle.bgp_write.specs.Pending.{Formed, form, pending}
use Rattle.bgp_fsm.specs.declared.State.{State}
use Rattle.bgp_fsm.specs.declared.State.TheVariants.{Idle, Connect, OpenSent, OpenConfirm, Established}
use Rattle.bgp_fsm.specs.declared.Stimulus.{Stimulus}
use Rattle.bgp_fsm.specs.declared.Stimulus.TheVariants as stimuli
use Rattle.bgp_fsm.specs.declared.Act.{Act}
use Rattle.bgp_fsm.specs.declared.Act.TheVariants as acts
use Rattle.bgp_fsm.specs.Sessions.{Owned, row, is_live}
use Rattle.xbgp_config.specs.Configs.{same_prefix}
use Rattle.spk_native.specs.Filters.{accepts_inbound}
use Rattle.xbgp_points.specs.Points.{Called, receive, inbound}
use Rattle.spk_model.specs.declared.host.Setup.{Setup}
use Rattle.spk_model.specs.Sources.{peer_numbers, is_up, side_of}
use Rattle.spk_model.specs.Choosing.{Candidate}
use Rattle.spk_model.specs.Exporting.{Exported, accepted}
use Rattle.spk_model.specs.Routing.{Routed, Tables, Chosen, at_tables, set_routes, set_adv, set_best, ran_all}
use Rattle.spk_model.specs.Routing.{candidate, local_candidates, candidates, decided, set_tables, no_tables}
use Rattle.spk_model.specs.Routing.{decide, advertise, export_best, export, settle, settle_all, export_all}
use Rattle.spk_model.specs.Routing.{announce_one, without_all}
use Rattle.spk_model.specs.Routing.{drop_all, receive_route, receive_if, announce, withdraw, routes_of, update, lose}
use Rattle.spk_model.specs.Turning.{Speaker, Turn, gives, routed, with_routes, put, rest_of, control, act, react}
use Rattle.spk_model.specs.Turning.{refuse}
use Rattle.spk_model.specs.Turning.{session_at, judged_open, open_in, taken_update, judged_update, update_in}
use Rattle.spk_model.specs.Turning.{message_in, front_in, when_true, take_turns, octets_in, state_of, set_wait}
use Rattle.spk_model.specs.Turning.{wait_of}
use Rattle.spk_model.specs.Turning.{set_session, set_rest, set_clock, tables_at, Due, first_due, stimulus_of}
use Rattle.spk_model.specs.Turning.{fire_in_time, fire_first, time_turns, time_to, within, less, is_spent, put_rest}
use Rattle.spk_model.specs.Turning.{formed_rest, form_next, rest_or_form, unless_spent, emit_turns, emit}
use Rattle.spk_model.specs.Turning.{known_prefixes}
use Rattle.spk_model.specs.Turning.{turn, before, event, history, start_of}
use Rattle.spk_model.specs.Laws.{is_sent, rule_free, untold, without_telling}

-- ---- routes

-- the tables of a peer without what it was told
get_or-untold : (ts : List Tables) (i : ℕ) → get_or (map untold ts) i no_tables ≡ untold (get_or ts i no_tables)
get_or-untold [] i = refl
get_or-untold (t ∷ ts) zero = refl
get_or-untold (t ∷ ts) (suc i) = get_or-untold ts i

set-untold : (ts : List Tables) (i : ℕ) (x : Tables) → set (map untold ts) i (untold x) ≡ map untold (set ts i x)
set-untold [] i x = refl
set-untold (t ∷ ts) zero x = refl
set-untold (t ∷ ts) (suc i) x = ap (λ (us : List Tables). untold t ∷ us) (set-untold ts i x)

untold-untold : (ts : List Tables) → map untold (map untold ts) ≡ map untold ts
untold-untold [] = refl
untold-untold (t ∷ ts) = ap (λ (us : List Tables). untold t ∷ us) (untold-untold ts)

-- the routes without what peers were told
abbrev bare : Routed → Routed
bare t = record t { routing = record t.routing { tables = map untold (t.routing).tables } }

-- a step that does not look at it
abbrev IsBlind : (Routed → Routed) → Type 0
IsBlind f = (t : Routed) → f (bare t) ≡ bare (f t)

fold-blind : {A : Type 0} (f : Routed → A → Routed) → ((a : A) → IsBlind (λ t. f t a)) → (xs : List A)
    → IsBlind (λ t. fold f t xs)
fold-blind f blind [] t = refl
fold-blind f blind (x ∷ xs) t = ap (λ (u : Routed). fold f u xs) (blind x t) ∙ fold-blind f blind xs (f t x)

if-blind : (b : Bool) (f g : Routed → Routed) → IsBlind f → IsBlind g → IsBlind (λ t. if b then f t else g t)
if-blind true f g p q t = p t
if-blind false f g p q t = q t

at_tables-bare : (p : ℕ) (t : Routed) → at_tables (bare t) p ≡ untold (at_tables t p)
at_tables-bare p t = get_or-untold (t.routing).tables (p - 1)

set_tables-bare : (p : ℕ) (x : Tables) (t : Routed) → set_tables (bare t) p (untold x) ≡ bare (set_tables t p x)
set_tables-bare p x t =
    ap (λ (ts : List Tables). record t { routing = record t.routing { tables = ts } })
    (set-untold (t.routing).tables (p - 1) x)

-- other tables that are made of those of a peer
change-blind : (p : ℕ) (f : Tables → Tables) → ((x : Tables) → f (untold x) ≡ untold (f x))
    → IsBlind (λ t. set_tables t p (f (at_tables t p)))
change-blind p f same t =
    ap (λ (x : Tables). set_tables (bare t) p (f x)) (at_tables-bare p t)
    ∙ ap (λ (x : Tables). set_tables (bare t) p x) (same (at_tables t p))
    ∙ set_tables-bare p (f (at_tables t p)) t

set_adv-blind : (p : ℕ) (prefix : Prefix) (section : Option (List ℕ)) → IsBlind (λ t. set_adv t p prefix section)
set_adv-blind p prefix None t =
    change-blind p (λ x. record x { adv = without prefix_cmp x.adv prefix }) (λ x. refl) t
set_adv-blind p prefix (Some section) t =
    change-blind p (λ x. record x { adv = with_value prefix_cmp x.adv prefix section }) (λ x. refl) t

set_best-blind : (prefix : Prefix) (best : Option Chosen) → IsBlind (λ t. set_best t prefix best)
set_best-blind prefix None t = refl
set_best-blind prefix (Some best) t = refl

-- an announced prefix enters the table of its peer, or leaves it
abbrev entered : Bool → Called → ℕ → Prefix → Routed → Routed
entered enters c p prefix t =
    if enters then set_routes t p (with_value prefix_cmp (at_tables t p).adjin prefix c.route)
    else set_routes t p (without prefix_cmp (at_tables t p).adjin prefix)

entered-blind : (enters : Bool) (c : Called) (p : ℕ) (prefix : Prefix) → IsBlind (entered enters c p prefix)
entered-blind true c p prefix t =
    change-blind p (λ x. record x { adjin = with_value prefix_cmp x.adjin prefix c.route }) (λ x. refl) t
entered-blind false c p prefix t =
    change-blind p (λ x. record x { adjin = without prefix_cmp x.adjin prefix }) (λ x. refl) t

module _ (setup : Setup) (sessions : List Owned) where
  -- the candidate that a peer's tables have
  abbrev candidate_in : Prefix → ℕ → Tables → Option Candidate
  candidate_in prefix p x = option_map (candidate setup sessions p) (value_at prefix_cmp x.adjin prefix)

  candidates_of-bare : (prefix : Prefix) (ps : List ℕ) (t : Routed)
      → filter_map (λ p. candidate_in prefix p (at_tables (bare t) p)) ps
      ≡ filter_map (λ p. candidate_in prefix p (at_tables t p)) ps
  candidates_of-bare prefix [] t = refl
  candidates_of-bare prefix (p ∷ ps) t =
      ap (λ (x : Tables). cons_option (candidate_in prefix p x)
      (filter_map (λ r. candidate_in prefix r (at_tables (bare t) r)) ps)) (at_tables-bare p t)
      ∙ ap (λ (cs : List Candidate). cons_option (candidate_in prefix p (at_tables t p)) cs)
      (candidates_of-bare prefix ps t)

  candidates-bare : (prefix : Prefix) (t : Routed)
      → candidates setup sessions (bare t) prefix ≡ candidates setup sessions t prefix
  candidates-bare prefix t =
      ap (λ (cs : List Candidate). local_candidates setup sessions prefix ++ cs)
      (candidates_of-bare prefix (peer_numbers sessions) t)

  decided-blind : (prefix : Prefix) (cs : List Candidate) → IsBlind (λ t. decided setup sessions t prefix cs)
  decided-blind prefix [] t = refl
  decided-blind prefix (c ∷ cs) t = refl

  decide-blind : (prefix : Prefix) → IsBlind (λ t. decide setup sessions t prefix)
  unfolding decide
  decide-blind prefix t =
      ap (λ (cs : List Candidate). decided setup sessions (bare t) prefix cs) (candidates-bare prefix t)
      ∙ decided-blind prefix (candidates setup sessions t prefix) t

  advertise-blind : (p : ℕ) (prefix : Prefix) (x : Exported) → IsBlind (λ t. advertise setup sessions t p prefix x)
  advertise-blind p prefix x t = set_adv-blind p prefix x.section (ran_all t x.engine x.trace)

  export_best-blind : (p : ℕ) (prefix : Prefix) (best : Option Chosen)
      → IsBlind (λ t. export_best setup sessions t p prefix best)
  export_best-blind p prefix None t = set_adv-blind p prefix None t
  export_best-blind p prefix (Some best) t = advertise-blind p prefix _ t

  export-blind : (prefix : Prefix) (p : ℕ) → IsBlind (λ t. export setup sessions prefix t p)
  unfolding export
  export-blind prefix p t =
      let best = value_at prefix_cmp (t.routing).best prefix in
      if-blind (is_up sessions p) (λ u. export_best setup sessions u p prefix best) (λ u. u)
      (λ u. export_best-blind p prefix best u) (λ u. refl) t

  settle-blind : (prefix : Prefix) → IsBlind (λ t. settle setup sessions t prefix)
  unfolding settle
  settle-blind prefix t =
      ap (λ (u : Routed). fold (export setup sessions prefix) u (peer_numbers sessions)) (decide-blind prefix t)
      ∙ fold-blind (export setup sessions prefix) (export-blind prefix) (peer_numbers sessions)
      (decide setup sessions t prefix)

  settle_all-blind : (ps : List Prefix) → IsBlind (λ t. settle_all setup sessions t ps)
  unfolding settle_all
  settle_all-blind ps t = fold-blind (settle setup sessions) settle-blind (set_of prefix_cmp ps) t

  export_all-blind : (p : ℕ) → IsBlind (λ t. export_all setup sessions t p)
  unfolding export_all
  export_all-blind p t = fold-blind (λ u prefix. export setup sessions prefix u p)
      (λ prefix. export-blind prefix p) (keys_of (t.routing).best) t

  announce_one-blind : (now : ℕ) (route : Route) (p : ℕ) (prefix : Prefix)
      → IsBlind (λ t. announce_one setup sessions now route p t prefix)
  unfolding announce_one
  announce_one-blind now route p prefix t =
      let c = inbound setup.manifest (setup.config).local (t.routing).engine now (side_of setup.config sessions p)
      prefix route in
      let enters = accepted c.outcome (accepts_inbound c.route (setup.config).local) in
      entered-blind enters c p prefix (ran_all t c.engine ((Inbound, c.outcome) ∷ []))

  drop_all-blind : (p : ℕ) (ps : List Prefix) → IsBlind (λ t. drop_all setup sessions t p ps)
  drop_all-blind p ps t = change-blind p (λ x. record x { adjin = without_all x.adjin ps }) (λ x. refl) t

  receive_route-blind : (now p : ℕ) (body : List ℕ) (ps : List Prefix) (route : Route)
      → IsBlind (λ t. receive_route setup sessions now t p body ps route)
  unfolding receive_route
  receive_route-blind now p body ps route t =
      let c = receive setup.manifest (setup.config).local (t.routing).engine now (side_of setup.config sessions p)
      route body in
      if-blind (accepted c.outcome true) (λ u. fold (announce_one setup sessions now c.route p) u ps)
      (λ u. drop_all setup sessions u p ps)
      (fold-blind (announce_one setup sessions now c.route p) (announce_one-blind now c.route p) ps)
      (drop_all-blind p ps) (ran_all t c.engine ((Receive, c.outcome) ∷ []))

  receive_if-blind : (fits : Bool) (now p : ℕ) (body : List ℕ) (ps : List Prefix) (route : Route)
      → IsBlind (λ t. receive_if setup sessions fits now t p body ps route)
  receive_if-blind true now p body ps route t = receive_route-blind now p body ps route t
  receive_if-blind false now p body ps route t = drop_all-blind p ps t

  announce-blind : (now p : ℕ) (body : List ℕ) (u : Update) (ps : List Prefix)
      → IsBlind (λ t. announce setup sessions now t p body u ps)
  unfolding announce
  announce-blind now p body u ps t = receive_if-blind _ now p body ps _ t

  withdraw-blind : (p : ℕ) (u : Update) → IsBlind (λ t. withdraw setup sessions t p u)
  unfolding withdraw
  withdraw-blind p u t =
      drop_all-blind p (filter (λ w. not (list_any (same_prefix w) (prefixes u.nlri))) (prefixes u.withdrawn)) t

  routes_of-blind : (now p : ℕ) (body : List ℕ) (u : Update) (ps : List Prefix)
      → IsBlind (λ t. routes_of setup sessions now t p body u ps)
  routes_of-blind now p body u [] t = withdraw-blind p u t
  routes_of-blind now p body u (prefix ∷ ps) t =
      ap (λ (v : Routed). withdraw setup sessions v p u) (announce-blind now p body u (prefix ∷ ps) t)
      ∙ withdraw-blind p u _

  update-blind : (now p : ℕ) (body : List ℕ) → IsBlind (λ t. update setup sessions now t p body)
  unfolding update
  update-blind now p body t =
      let u = update_parts body in
      let ps = prefixes u.withdrawn ++ prefixes u.nlri in
      ap (λ (v : Routed). settle_all setup sessions v ps) (routes_of-blind now p body u (prefixes u.nlri) t)
      ∙ settle_all-blind ps (routes_of setup sessions now t p body u (prefixes u.nlri))

  lose-blind : (p : ℕ) → IsBlind (λ t. lose setup sessions t p)
  unfolding lose
  lose-blind p t =
      ap (λ (x : Tables). settle_all setup sessions (set_tables (bare t) p no_tables) (keys_of x.adjin))
      (at_tables-bare p t)
      ∙ ap (λ (u : Routed). settle_all setup sessions u (keys_of (at_tables t p).adjin))
      (set_tables-bare p no_tables t)
      ∙ settle_all-blind (keys_of (at_tables t p).adjin) (set_tables t p no_tables)

-- ---- a turn

-- outputs but octets
abbrev others : List Output → List Output
others os = filter (λ o. not (is_sent o)) os

-- a turn without what peers were told and sent
abbrev plain : Turn → Turn
plain t = record { speaker = without_telling t.speaker; outputs = others t.outputs; trace = t.trace }

-- nothing is left of a message
abbrev no_rests : List (List ℕ) → List (List ℕ)
no_rests rs = map (λ _. []) rs

no_rests-again : (rs : List (List ℕ)) → no_rests (no_rests rs) ≡ no_rests rs
no_rests-again [] = refl
no_rests-again (r ∷ rs) = ap (λ (ss : List (List ℕ)). [] ∷ ss) (no_rests-again rs)

no_rests-set : (rs : List (List ℕ)) (i : ℕ) (r : List ℕ) → no_rests (set rs i r) ≡ no_rests rs
no_rests-set [] i r = refl
no_rests-set (s ∷ rs) zero r = refl
no_rests-set (s ∷ rs) (suc i) r = ap (λ (ss : List (List ℕ)). [] ∷ ss) (no_rests-set rs i r)

others-again : (os : List Output) → others (others os) ≡ others os
others-again [] = refl
others-again (o ∷ os) =
    elim (cases_Bool (not (is_sent o))) [
      | inl stays ↦ rw (stays, stays) (ap (λ (l : List Output). o ∷ l) (others-again os))
      | inr goes ↦ rw goes (others-again os)
    ]

others-put : (p : ℕ) (piece : List ℕ) → others (put p piece) ≡ []
others-put p [] = refl
others-put p (b ∷ piece) = refl

others-append : (os more : List Output) → others (os ++ more) ≡ others os ++ others more
others-append os more = filter-append (λ o. not (is_sent o)) os more

-- a turn by the parts that are changed here
abbrev made : Turn → Routed → List (List ℕ) → List Tables → List Output → Turn
made t r rests tables outputs = record {
  speaker = record t.speaker { rests = rests; routing = record r.routing { tables = tables } };
  outputs = outputs;
  trace = r.trace;
}

plain-again : (t : Turn) → plain (plain t) ≡ plain t
plain-again t =
    let rests = (t.speaker).rests in
    let tables = ((t.speaker).routing).tables in
    ap (λ (rs : List (List ℕ)). made t (routed t) rs (map untold (map untold tables)) (others (others t.outputs)))
    (no_rests-again rests)
    ∙ ap (λ (ts : List Tables). made t (routed t) (no_rests rests) ts (others (others t.outputs)))
    (untold-untold tables)
    ∙ ap (λ (os : List Output). made t (routed t) (no_rests rests) (map untold tables) os) (others-again t.outputs)

-- a step that does not look at what peers were told
abbrev IsDeaf : (Turn → Turn) → Type 0
IsDeaf f = (t : Turn) → plain (f (plain t)) ≡ plain (f t)

then-deaf : (f g : Turn → Turn) → IsDeaf f → IsDeaf g → IsDeaf (λ t. g (f t))
then-deaf f g first next t =
    sym (next (f (plain t))) ∙ ap (λ (u : Turn). plain (g u)) (first t) ∙ next (f t)

fold-deaf : {A : Type 0} (f : Turn → A → Turn) → ((a : A) → IsDeaf (λ t. f t a)) → (xs : List A)
    → IsDeaf (λ t. fold f t xs)
fold-deaf f deaf [] t = plain-again t
fold-deaf f deaf (x ∷ xs) t = then-deaf (λ u. f u x) (λ u. fold f u xs) (deaf x) (fold-deaf f deaf xs) t

if-deaf : (b : Bool) (f g : Turn → Turn) → IsDeaf f → IsDeaf g → IsDeaf (λ t. if b then f t else g t)
if-deaf true f g p q t = p t
if-deaf false f g p q t = q t

-- a step that changes only this
abbrev IsHidden : (Turn → Turn) → Type 0
IsHidden f = (t : Turn) → plain (f t) ≡ plain t

hidden-deaf : (f : Turn → Turn) → IsHidden f → IsDeaf f
hidden-deaf f hidden t = hidden (plain t) ∙ plain-again t ∙ sym (hidden t)

put-hidden : (p : ℕ) (piece : List ℕ) → IsHidden (λ t. gives t (put p piece))
put-hidden p piece t =
    let rests = no_rests (t.speaker).rests in
    let tables = map untold ((t.speaker).routing).tables in
    ap (λ (os : List Output). made t (routed t) rests tables os)
    (others-append t.outputs (put p piece)
    ∙ ap (λ (os : List Output). others t.outputs ++ os) (others-put p piece) ∙ append-nil (others t.outputs))

set_rest-hidden : (p : ℕ) (piece : List ℕ) → IsHidden (λ t. set_rest t p piece)
set_rest-hidden p piece t =
    let tables = map untold ((t.speaker).routing).tables in
    ap (λ (rs : List (List ℕ)). made t (routed t) rs tables (others t.outputs))
    (no_rests-set (t.speaker).rests (p - 1) piece)

-- outputs, and then a step of the routes
routes-deaf : (more : List Output) (f : Routed → Routed) → IsBlind f
    → IsDeaf (λ t. with_routes (gives t more) (f (routed t)))
routes-deaf more f blind t =
    let rests = (t.speaker).rests in
    let r = f (routed t) in
    let tables = (r.routing).tables in
    let os = others t.outputs in
    ap (λ (x : Routed). plain (with_routes (gives (plain t) more) x)) (blind (routed t))
    ∙ ap (λ (rs : List (List ℕ)). made t r rs (map untold (map untold tables)) (others (os ++ more)))
    (no_rests-again rests)
    ∙ ap (λ (ts : List Tables). made t r (no_rests rests) ts (others (os ++ more))) (untold-untold tables)
    ∙ ap (λ (l : List Output). made t r (no_rests rests) (map untold tables) l)
    (others-append os more ∙ ap (λ (l : List Output). l ++ others more) (others-again t.outputs)
    ∙ sym (others-append t.outputs more))

-- a step of the routes alone
steps-deaf : (f : Routed → Routed) → IsBlind f → IsDeaf (λ t. with_routes t (f (routed t)))
steps-deaf f blind t =
    let rests = (t.speaker).rests in
    let r = f (routed t) in
    let tables = (r.routing).tables in
    let os = others t.outputs in
    ap (λ (x : Routed). plain (with_routes (plain t) x)) (blind (routed t))
    ∙ ap (λ (rs : List (List ℕ)). made t r rs (map untold (map untold tables)) (others os)) (no_rests-again rests)
    ∙ ap (λ (ts : List Tables). made t r (no_rests rests) ts (others os)) (untold-untold tables)
    ∙ ap (λ (l : List Output). made t r (no_rests rests) (map untold tables) l) (others-again t.outputs)

set_wait-deaf : (p : ℕ) (piece : List ℕ) → IsDeaf (λ t. set_wait t p piece)
set_wait-deaf p piece t = ap (λ (u : Turn). set_wait u p piece) (plain-again t)

set_clock-deaf : (now : ℕ) → IsDeaf (λ t. set_clock t now)
set_clock-deaf now t = ap (λ (u : Turn). set_clock u now) (plain-again t)

module _ (setup : Setup) where
  control-hidden : (p : ℕ) (piece : List ℕ) → IsHidden (λ t. control setup t p piece)
  unfolding control
  control-hidden p piece t =
      let u = gives t (put p (rest_of t p)) in
      put-hidden p piece (set_rest u p []) ∙ set_rest-hidden p [] u ∙ put-hidden p (rest_of t p) t

  act-deaf : (p : ℕ) (extra : List ℕ) (a : Act) → IsDeaf (λ t. act setup p extra t a)
  unfolding act
  act-deaf p extra acts.SendOpen t = hidden-deaf (λ u. control setup u p _) (control-hidden p _) t
  act-deaf p extra acts.SendKeepalive t = hidden-deaf (λ u. control setup u p _) (control-hidden p _) t
  act-deaf p extra (acts.SendNotice code subcode) t = hidden-deaf (λ u. control setup u p _) (control-hidden p _) t
  act-deaf p extra acts.Up t =
      routes-deaf (came_up p ∷ []) (λ r. export_all setup (t.speaker).sessions r p)
      (export_all-blind setup (t.speaker).sessions p) t
  act-deaf p extra acts.Down t =
      routes-deaf (went_down p ∷ []) (λ r. lose setup (t.speaker).sessions r p)
      (lose-blind setup (t.speaker).sessions p) t
  act-deaf p extra acts.Close t =
      then-deaf (λ u. set_rest u p []) (λ u. set_wait u p [])
      (hidden-deaf (λ u. set_rest u p []) (set_rest-hidden p [])) (set_wait-deaf p []) t

  react-deaf : (p : ℕ) (stimulus : Stimulus) (extra : List ℕ) → IsDeaf (λ t. react setup t p stimulus extra)
  unfolding react
  react-deaf p stimulus extra t =
      let s = session_at t p in
      let r = row s.own s.session (t.speaker).clock stimulus in
      fold-deaf (act setup p extra) (act-deaf p extra) r.acts
      (set_session t p (record s { session = r.session }))

  refuse-deaf : (p : ℕ) (n : Notification) → IsDeaf (λ t. refuse setup t p n)
  unfolding refuse
  refuse-deaf p n t = react-deaf p (stimuli.Fault n.code n.subcode) n.extra t

  judged_open-deaf : (p : ℕ) (body : List ℕ) (fault : Option Notification)
      → IsDeaf (λ t. judged_open setup t p body fault)
  judged_open-deaf p body None t = react-deaf p _ [] t
  judged_open-deaf p body (Some n) t = refuse-deaf p n t

  open_in-deaf : (p : ℕ) (body : List ℕ) (state : State) → IsDeaf (λ t. open_in setup t p body state)
  unfolding open_in
  open_in-deaf p body OpenSent t = judged_open-deaf p body _ t
  open_in-deaf p body Idle t = react-deaf p stimuli.OpenLate [] t
  open_in-deaf p body Connect t = react-deaf p stimuli.OpenLate [] t
  open_in-deaf p body OpenConfirm t = react-deaf p stimuli.OpenLate [] t
  open_in-deaf p body Established t = react-deaf p stimuli.OpenLate [] t

  taken_update-deaf : (p : ℕ) (body : List ℕ) → IsDeaf (λ t. taken_update setup t p body)
  taken_update-deaf p body t =
      steps-deaf (λ r. update setup (t.speaker).sessions (t.speaker).clock r p body)
      (update-blind setup (t.speaker).sessions (t.speaker).clock p body) t

  judged_update-deaf : (p : ℕ) (body : List ℕ) (fault : Option Notification)
      → IsDeaf (λ t. judged_update setup t p body fault)
  judged_update-deaf p body None t =
      then-deaf (λ u. react setup u p stimuli.Update []) (λ u. taken_update setup u p body)
      (react-deaf p stimuli.Update []) (taken_update-deaf p body) t
  judged_update-deaf p body (Some n) t = refuse-deaf p n t

  update_in-deaf : (p : ℕ) (body : List ℕ) (state : State) → IsDeaf (λ t. update_in setup t p body state)
  unfolding update_in
  update_in-deaf p body Established t = judged_update-deaf p body _ t
  update_in-deaf p body Idle t = react-deaf p stimuli.Update [] t
  update_in-deaf p body Connect t = react-deaf p stimuli.Update [] t
  update_in-deaf p body OpenSent t = react-deaf p stimuli.Update [] t
  update_in-deaf p body OpenConfirm t = react-deaf p stimuli.Update [] t

  message_in-deaf : (p : ℕ) (message : List ℕ) → IsDeaf (λ t. message_in setup t p message)
  unfolding message_in
  message_in-deaf p message t =
      let kind = message_kind message in
      let body = message_body message in
      let state = state_of t p in
      let late : IsDeaf (λ u. if kind == NOTIFICATION then react setup u p stimuli.Notified []
      else react setup u p stimuli.Keepalive []) =
      if-deaf (kind == NOTIFICATION) (λ u. react setup u p stimuli.Notified [])
      (λ u. react setup u p stimuli.Keepalive []) (react-deaf p stimuli.Notified [])
      (react-deaf p stimuli.Keepalive []) in
      let rest : IsDeaf (λ u. if kind == UPDATE then update_in setup u p body state
      else if kind == NOTIFICATION then react setup u p stimuli.Notified [] else react setup u p stimuli.Keepalive []) =
      if-deaf (kind == UPDATE) (λ u. update_in setup u p body state)
      (λ u. if kind == NOTIFICATION then react setup u p stimuli.Notified [] else react setup u p stimuli.Keepalive [])
      (update_in-deaf p body state) late in
      if-deaf (kind == OPEN) (λ u. open_in setup u p body state)
      (λ u. if kind == UPDATE then update_in setup u p body state
      else if kind == NOTIFICATION then react setup u p stimuli.Notified [] else react setup u p stimuli.Keepalive [])
      (open_in-deaf p body state) rest t

  front_in-deaf : (rest : Turn → Turn) → IsDeaf rest → (p : ℕ) (size : Option ℕ) (fault : Option Notification)
      → IsDeaf (λ t. front_in setup rest t p size fault)
  front_in-deaf rest deaf p (Some n) fault t =
      let message = take n (wait_of t p) in
      let left = drop n (wait_of t p) in
      then-deaf (λ u. message_in setup (set_wait u p left) p message) rest
      (then-deaf (λ u. set_wait u p left) (λ u. message_in setup u p message) (set_wait-deaf p left)
      (message_in-deaf p message)) deaf t
  front_in-deaf rest deaf p None None t = plain-again t
  front_in-deaf rest deaf p None (Some fault) t = refuse-deaf p fault t

  when_true-deaf : (b : Bool) (go : Turn → Turn) → IsDeaf go → IsDeaf (when_true setup b go)
  when_true-deaf true go deaf t = deaf t
  when_true-deaf false go deaf t = plain-again t

  take_turns-deaf : (turns p : ℕ) → IsDeaf (λ t. take_turns setup turns t p)
  unfolding take_turns
  take_turns-deaf zero p t = plain-again t
  take_turns-deaf (suc turns) p t =
      when_true-deaf (is_live (state_of t p))
      (λ u. front_in setup (λ v. take_turns setup turns v p) u p (message_size (wait_of u p))
      (front_fault (wait_of u p)))
      (λ u. front_in-deaf (λ v. take_turns setup turns v p) (take_turns-deaf turns p) p
      (message_size (wait_of u p)) (front_fault (wait_of u p)) u) t

  octets_in-deaf : (p : ℕ) (bytes : List ℕ) → IsDeaf (λ t. octets_in setup t p bytes)
  unfolding octets_in
  octets_in-deaf p bytes t =
      let whole = wait_of t p ++ bytes in
      if-deaf (is_live (state_of t p)) (λ u. take_turns setup (length whole) (set_wait u p whole) p) (λ u. u)
      (then-deaf (λ u. set_wait u p whole) (λ u. take_turns setup (length whole) u p) (set_wait-deaf p whole)
      (take_turns-deaf (length whole) p)) plain-again t

  fire_in_time-deaf : (rest : Turn → Turn) → IsDeaf rest → (now : ℕ) (d : Due) (b : Bool)
      → IsDeaf (λ t. fire_in_time setup rest t now d b)
  fire_in_time-deaf rest deaf now d true t =
      then-deaf (λ u. react setup (set_clock u d.at) d.peer (stimulus_of d.timer) []) rest
      (then-deaf (λ u. set_clock u d.at) (λ u. react setup u d.peer (stimulus_of d.timer) []) (set_clock-deaf d.at)
      (react-deaf d.peer (stimulus_of d.timer) [])) deaf t
  fire_in_time-deaf rest deaf now d false t = set_clock-deaf now t

  fire_first-deaf : (rest : Turn → Turn) → IsDeaf rest → (now : ℕ) (o : Option Due)
      → IsDeaf (λ t. fire_first setup rest t now o)
  fire_first-deaf rest deaf now None t = set_clock-deaf now t
  fire_first-deaf rest deaf now (Some d) t = fire_in_time-deaf rest deaf now d (nat_le d.at now) t

  time_turns-deaf : (turns now : ℕ) → IsDeaf (λ t. time_turns setup turns t now)
  unfolding time_turns
  time_turns-deaf zero now t = set_clock-deaf now t
  time_turns-deaf (suc turns) now t =
      fire_first-deaf (λ u. time_turns setup turns u now) (time_turns-deaf turns now) now (first_due t) t

  time_to-deaf : (now : ℕ) → IsDeaf (λ t. time_to setup t now)
  unfolding time_to
  time_to-deaf now t =
      time_turns-deaf (2 * length (t.speaker).sessions * (now + 1 - (t.speaker).clock)) now t

-- ---- telling

put_rest-hidden : (p : ℕ) (limit : Option ℕ) → IsHidden (λ t. put_rest t p limit)
put_rest-hidden p limit t =
    let out = within limit (rest_of t p) in
    set_rest-hidden p (drop (length out) (rest_of t p)) (gives t (put p out)) ∙ put-hidden p out t

untold-told : (ts : List Tables) (i : ℕ) (f : Formed)
    → map untold (set ts i (record (get_or ts i no_tables) { told = f.told })) ≡ map untold ts
untold-told [] i f = refl
untold-told (t ∷ ts) zero f = refl
untold-told (t ∷ ts) (suc i) f = ap (λ (us : List Tables). untold t ∷ us) (untold-told ts i f)

formed_rest-hidden : (p : ℕ) (f : Formed) → IsHidden (λ t. formed_rest t p f)
formed_rest-hidden p f t =
    let tables = ((t.speaker).routing).tables in
    ap (λ (rs : List (List ℕ)). made t (routed t) rs
    (map untold (set tables (p - 1) (record (get_or tables (p - 1) no_tables) { told = f.told }))) (others t.outputs))
    (no_rests-set (t.speaker).rests (p - 1) f.message)
    ∙ ap (λ (ts : List Tables). made t (routed t) (no_rests (t.speaker).rests) ts (others t.outputs))
    (untold-told tables (p - 1) f)

form_next-hidden : (rest : Turn → Turn) → IsHidden rest → (p : ℕ) (f : Option Formed)
    → IsHidden (λ t. form_next rest t p f)
form_next-hidden rest hidden p None t = refl
form_next-hidden rest hidden p (Some f) t = hidden (formed_rest t p f) ∙ formed_rest-hidden p f t

rest_or_form-hidden : (rule : Packing) (rest : Turn → Option ℕ → Turn)
    → ((limit : Option ℕ) → IsHidden (λ t. rest t limit)) → (p : ℕ) (limit : Option ℕ) (b : Bool)
    → IsHidden (λ t. rest_or_form rule rest t p limit b)
rest_or_form-hidden rule rest hidden p limit true t =
    hidden (less limit (length (rest_of t p))) (put_rest t p limit) ∙ put_rest-hidden p limit t
rest_or_form-hidden rule rest hidden p limit false t =
    form_next-hidden (λ u. rest u limit) (hidden limit) p (form rule (tables_at t p).adv (tables_at t p).told) t

unless_spent-hidden : (b : Bool) (go : Turn → Turn) → IsHidden go → IsHidden (unless_spent b go)
unless_spent-hidden true go hidden t = refl
unless_spent-hidden false go hidden t = hidden t

emit_turns-hidden : (rule : Packing) (turns p : ℕ) (limit : Option ℕ)
    → IsHidden (λ t. emit_turns rule turns t p limit)
unfolding emit_turns
emit_turns-hidden rule zero p limit t = refl
emit_turns-hidden rule (suc turns) p limit t =
    unless_spent-hidden (is_spent limit)
    (λ u. rest_or_form rule (λ v l. emit_turns rule turns v p l) u p limit (nat_lt 0 (length (rest_of u p))))
    (λ u. rest_or_form-hidden rule (λ v l. emit_turns rule turns v p l) (emit_turns-hidden rule turns p) p limit
    (nat_lt 0 (length (rest_of u p))) u) t

if-hidden : (b : Bool) (f : Turn → Turn) → IsHidden f → IsHidden (λ t. if b then f t else t)
if-hidden true f hidden t = hidden t
if-hidden false f hidden t = refl

emit-hidden : (rule : Packing) (p : ℕ) (limit : Option ℕ) → IsHidden (λ t. emit rule t p limit)
unfolding emit
emit-hidden rule p limit t =
    let turns = 2 + 2 * length (pending (tables_at t p).adv (tables_at t p).told) in
    if-hidden (is_up (t.speaker).sessions p) (λ u. emit_turns rule turns u p limit)
    (emit_turns-hidden rule turns p limit) t

-- ---- events

known_of-untold : (ts : List Tables)
    → flat_map (λ t. keys_of t.adjin ++ keys_of t.adv) (map untold ts)
    ≡ flat_map (λ t. keys_of t.adjin ++ keys_of t.adv) ts
known_of-untold [] = refl
known_of-untold (t ∷ ts) =
    ap (λ (ps : List Prefix). keys_of t.adjin ++ keys_of t.adv ++ ps) (known_of-untold ts)

rescan-deaf : (rule : Packing) (setup : Setup) → IsDeaf (λ t. turn rule setup t rescan)
unfolding turn
rescan-deaf rule setup t =
    let sessions = (t.speaker).sessions in
    let known = known_prefixes setup (t.speaker).routing in
    ap (λ (ps : List Prefix).
    plain (with_routes (plain t) (settle_all setup sessions (routed (plain t)) ((setup.config).networks ++ ps))))
    (known_of-untold ((t.speaker).routing).tables)
    ∙ steps-deaf (λ r. settle_all setup sessions r known) (settle_all-blind setup sessions known) t

turn-deaf : (rule : Packing) (setup : Setup) (e : Event) → IsDeaf (λ t. turn rule setup t e)
unfolding turn
turn-deaf rule setup (start p) t = react-deaf setup p stimuli.Start [] t
turn-deaf rule setup (stop p) t = react-deaf setup p stimuli.Stop [] t
turn-deaf rule setup (up p) t = react-deaf setup p stimuli.LinkUp [] t
turn-deaf rule setup (down p) t = react-deaf setup p stimuli.LinkDown [] t
turn-deaf rule setup (octets p bytes) t = octets_in-deaf setup p bytes t
turn-deaf rule setup (time now) t = time_to-deaf setup now t
turn-deaf rule setup (room p k) t = hidden-deaf (λ u. emit rule u p (Some k)) (emit-hidden rule p (Some k)) t
turn-deaf rule setup (drain p) t = hidden-deaf (λ u. emit rule u p None) (emit-hidden rule p None) t
turn-deaf rule setup rescan t = rescan-deaf rule setup t

-- the packing changes nothing else
turn-rules : (a b : Packing) (setup : Setup) (e : Event) (t : Turn)
    → plain (turn a setup t e) ≡ plain (turn b setup t e)
unfolding turn
turn-rules a b setup (start p) t = refl
turn-rules a b setup (stop p) t = refl
turn-rules a b setup (up p) t = refl
turn-rules a b setup (down p) t = refl
turn-rules a b setup (octets p bytes) t = refl
turn-rules a b setup (time now) t = refl
turn-rules a b setup (room p k) t = emit-hidden a p (Some k) t ∙ sym (emit-hidden b p (Some k) t)
turn-rules a b setup (drain p) t = emit-hidden a p None t ∙ sym (emit-hidden b p None t)
turn-rules a b setup rescan t = refl

event-rules : (a b : Packing) (setup : Setup) (e : Event) (s u : Speaker) → without_telling s ≡ without_telling u
    → plain (turn a setup (before s) e) ≡ plain (turn b setup (before u) e)
event-rules a b setup e s u same =
    turn-rules a b setup e (before s)
    ∙ sym (turn-deaf b setup e (before s))
    ∙ ap (λ (x : Speaker). plain (turn b setup (before x) e)) same
    ∙ turn-deaf b setup e (before u)

history-rules : (a b : Packing) (setup : Setup) (es : List Event) (s u : Speaker)
    → without_telling s ≡ without_telling u
    → let g = history a setup s es in let h = history b setup u es in
    (without_telling g.speaker ≡ without_telling h.speaker) × (others g.outputs ≡ others h.outputs)
unfolding history event
history-rules a b setup [] s u same = (same, refl)
history-rules a b setup (e ∷ es) s u same =
    let g = turn a setup (before s) e in
    let h = turn b setup (before u) e in
    let first = event-rules a b setup e s u same in
    let next = history-rules a b setup es g.speaker h.speaker (ap (λ (t : Turn). t.speaker) first) in
    let more = (history a setup g.speaker es).outputs in
    let later = (history b setup h.speaker es).outputs in (
      next.0,
      others-append g.outputs more
          ∙ ap (λ (os : List Output). os ++ others more) (ap (λ (t : Turn). t.outputs) first)
          ∙ ap (λ (os : List Output). others h.outputs ++ os) next.1
          ∙ sym (others-append h.outputs later),
    )

pub rule_free_holds : rule_free
rule_free_holds setup es accepted events =
    history-rules Grouped Sorted setup es (start_of setup) (start_of setup) refl

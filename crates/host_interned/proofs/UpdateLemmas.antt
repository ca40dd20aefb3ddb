-- What an UPDATE leaves.
use Rattle.std.proofs.Common.{◌≡◌, ◌-◌, refl, sym, ◌∙◌, ap, subst, ℕ, Bool, true, false, List, [], ◌∷◌, ◌++◌}
use Rattle.std.proofs.Common.{fold, filter, length, arith}
use Rattle.std.specs.Prelude.{if◌then◌else◌, not, nat_le, slice_index_or}
use Rattle.std.specs.List.{slice_set, list_any}
use Rattle.std.proofs.Math.Dec.{eqb-suc-zero}
use Rattle.std.specs.Prelude.{◌==◌}
use Rattle.xb_words.specs.Cut.{cut}
use Rattle.xb_words.specs.Table.{with_value, without, has_key, set_of}
use Rattle.xb_wire.specs.Messages.{Update, update_parts}
use Rattle.xb_wire.specs.declared.numbers.TheConstants.{MAX_MESSAGE}
use Rattle.xb_values.specs.Prefixes.{Prefix, prefix_cmp, prefixes}
use Rattle.xb_domain.specs.declared.side.Side.{Side}
use Rattle.xb_domain.specs.declared.point.Point.TheVariants.{Receive, Inbound}
use Rattle.bgp_attr.specs.Routes.{Route, canon}
use Rattle.bgp_fsm.specs.Sessions.{Owned}
use Rattle.xbgp_view.specs.Views.{Routes, Edited}
use Rattle.xbgp_config.specs.Configs.{same_prefix}
use Rattle.spk_native.specs.Filters.{accepts_inbound}
use Rattle.xbgp_points.specs.declared.outcome.Outcome.{Outcome}
use Rattle.xbgp_points.specs.Engines.{Kept, Answers}
use Rattle.xbgp_points.specs.Points.{Engine, Called, inbound, receive}
use Rattle.spk_model.specs.Sources.{side_of}
use Rattle.spk_model.specs.Exporting.{accepted}
use Rattle.spk_model.specs.Routing.{Routing, Routed, Tables, no_tables, at_tables, ran, set_routes, without_all}
use Rattle.spk_model.specs.Routing.{announce, announce_one, drop_all, receive_if, receive_route, route_in, routes_of}
use Rattle.spk_model.specs.Routing.{settle, settle_all, update, withdraw}
use Rattle.spk_routes.proofs.SetLemmas.{has_key-set_of, filter-same}
use Rattle.host_interned.specs.declared.routing.Core.{Core}
use Rattle.host_interned.specs.Ribs.{RibView, Shows, tables_in, with_sent}
use Rattle.host_interned.specs.Meaning.{Does, IsReady, setup_of, routed}
use Rattle.host_interned.proofs.ShownLemmas.{changed_core, ready_same, ready_with_peer, routing_shown}
use Rattle.host_interned.proofs.FollowingLemmas.{does_then, does_same}

-- the rib, the engine and the edited routes change
abbrev pub taken_core : Core → Kept → RibView → Edited → Edited → Core
taken_core a e r received route = changed_core a e r received route a.exporter

-- the rib changes
abbrev pub rib_core : Core → RibView → Core
rib_core a r = taken_core a a.engine r a.received a.route

-- the tables of all peers after a peer got routes of those that it sent
abbrev pub with_routes : RibView → ℕ → (Routes → Routes) → List Tables
with_routes r p routes = with_sent r p (routes (tables_in r p).adjin)

-- prefixes leave the table of a peer
pub drops : (a : Core) (r : RibView) (sessions : List Owned) (p : ℕ) (ps : List Prefix) → IsReady a
    → Shows a.rib.own a.rib.best (with_routes a.rib p (λ s. without_all s ps)) r
    → Does (λ setup t. drop_all setup sessions t p ps) a (rib_core a r)
drops a r sessions p ps ready shows = record {
  ready = ready_with_peer a a.engine r a.received a.route a.exporter p
      (record (tables_in a.rib p) { adjin = without_all (tables_in a.rib p).adjin ps }) ready refl shows;
  setup = refl;
  routing = λ trace. routing_shown a.engine.engine a.rib.own a.rib.best (with_routes a.rib p (λ s. without_all s ps)) r
      shows;
}

-- withdrawn prefixes that are not announced as well leave it
pub withdraws : (a : Core) (r : RibView) (sessions : List Owned) (p : ℕ) (u : Update) (withdrawn nlri : List ℕ)
    (set : List Prefix) → IsReady a → u.withdrawn ≡ withdrawn → u.nlri ≡ nlri
    → filter (λ w. not (has_key prefix_cmp set w)) (prefixes withdrawn)
    ≡ filter (λ w. not (list_any (same_prefix w) (prefixes nlri))) (prefixes withdrawn)
    → Shows a.rib.own a.rib.best (with_routes a.rib p
    (λ s. without_all s (filter (λ w. not (has_key prefix_cmp set w)) (prefixes withdrawn)))) r
    → Does (λ setup t. withdraw setup sessions t p u) a (rib_core a r)
unfolding withdraw
withdraws a r sessions p u withdrawn nlri set ready withdrawn_is nlri_is same shows =
    let ps : List Prefix = filter (λ w. not (has_key prefix_cmp set w)) (prefixes withdrawn) in
    let named : ps ≡ filter (λ w. not (list_any (same_prefix w) (prefixes u.nlri))) (prefixes u.withdrawn) =
    same
    ∙ ap (λ (n : List ℕ). filter (λ w. not (list_any (same_prefix w) (prefixes n))) (prefixes withdrawn)) (sym nlri_is)
    ∙ ap (λ (n : List ℕ). filter (λ w. not (list_any (same_prefix w) (prefixes u.nlri))) (prefixes n))
    (sym withdrawn_is) in
    does_same (λ setup t. drop_all setup sessions t p ps) (λ setup t. withdraw setup sessions t p u) a (rib_core a r)
    (λ trace. ap (drop_all (setup_of a) sessions (routed trace a) p) named)
    (drops a r sessions p ps ready shows)

-- the set of the announced prefixes tells which withdrawn ones are announced as well
pub others_same : (withdrawn nlri : List ℕ) (set : List Prefix) → set ≡ set_of prefix_cmp (prefixes nlri)
    → filter (λ w. not (has_key prefix_cmp set w)) (prefixes withdrawn)
    ≡ filter (λ w. not (list_any (same_prefix w) (prefixes nlri))) (prefixes withdrawn)
others_same withdrawn nlri set is =
    filter-same (λ w. not (has_key prefix_cmp set w)) (λ w. not (list_any (same_prefix w) (prefixes nlri)))
    (prefixes withdrawn)
    (λ q. ap not (ap (λ (s : List Prefix). has_key prefix_cmp s q) is ∙ has_key-set_of (prefixes nlri) q))

-- no octets write no prefix
pub no_prefixes : (s : List ℕ) → length s ≡ 0 → prefixes s ≡ []
unfolding cut
no_prefixes [] none = refl
no_prefixes (b ∷ s) none = absurd (omega (arith, none))

-- octets that write a prefix are there
pub are_there : (s : List ℕ) (first : Prefix) (others : List Prefix) → prefixes s ≡ first ∷ others
    → not (length s == 0) ≡ true
are_there [] first others some = absurd (cc (some, no_prefixes [] refl))
are_there (b ∷ s) first others some = rw (eqb-suc-zero (length s)) refl

-- nothing is withdrawn
pub none_same : (withdrawn nlri : List ℕ) (set : List Prefix) → prefixes withdrawn ≡ []
    → filter (λ w. not (has_key prefix_cmp set w)) (prefixes withdrawn)
    ≡ filter (λ w. not (list_any (same_prefix w) (prefixes nlri))) (prefixes withdrawn)
none_same withdrawn nlri set none =
    ap (filter (λ w. not (has_key prefix_cmp set w))) none
    ∙ sym (ap (filter (λ w. not (list_any (same_prefix w) (prefixes nlri)))) none)

-- the table of a peer after an announced prefix, accepted or not
abbrev pub routes_after : Bool → Routes → Prefix → Route → Routes
routes_after true routes prefix route = with_value prefix_cmp routes prefix route
routes_after false routes prefix route = without prefix_cmp routes prefix

announced_routing : (b : Bool) (t : Routed) (p : ℕ) (prefix : Prefix) (route : Route)
    → (if b then set_routes t p (with_value prefix_cmp (at_tables t p).adjin prefix route)
    else set_routes t p (without prefix_cmp (at_tables t p).adjin prefix)).routing
    ≡ (set_routes t p (routes_after b (at_tables t p).adjin prefix route)).routing
announced_routing true t p prefix route = refl
announced_routing false t p prefix route = refl

-- one announced prefix
pub announces_one : (a : Core) (e : Kept) (r : RibView) (copy after : Edited) (sessions : List Owned) (now p : ℕ)
    (side own : Side) (prefix : Prefix) (o : Outcome) (native b : Bool)
    → IsReady a → side ≡ side_of a.config sessions p
    → copy.route ≡ a.received.route
    → Answers (inbound a.engine.manifest a.engine.local a.engine.engine now side prefix copy.route) a.engine e o
    after.route
    → own ≡ a.config.local → native ≡ accepts_inbound after.route own → b ≡ accepted o native
    → Shows a.rib.own a.rib.best (with_routes a.rib p (λ s. routes_after b s prefix after.route)) r
    → Does (λ setup t. announce_one setup sessions now a.received.route p t prefix) a
    (taken_core a e r a.received after)
unfolding announce_one
announces_one a e r copy after sessions now p side own prefix o native b ready side_is copy_is answers own_is native_is
    b_is shows =
    let local : Side = a.config.local in
    let c : Called = inbound a.engine.manifest local a.engine.engine now
    (side_of a.config sessions p) prefix a.received.route in
    let same : inbound a.engine.manifest a.engine.local a.engine.engine now side prefix copy.route ≡ c =
    ap (λ (l : Side). inbound a.engine.manifest l a.engine.engine now side prefix copy.route) ready.local
    ∙ ap (λ (s : Side). inbound a.engine.manifest local a.engine.engine now s prefix copy.route) side_is
    ∙ ap (inbound a.engine.manifest local a.engine.engine now (side_of a.config sessions p) prefix) copy_is in
    let route_is : after.route ≡ c.route = answers.route ∙ ap (λ (x : Called). x.route) same in
    let engine_is : e ≡ record a.engine { engine = c.engine; wrote = c.wrote } =
    answers.after ∙ ap (λ (x : Called). record a.engine { engine = x.engine; wrote = x.wrote }) same in
    let accepts : b ≡ accepted c.outcome (accepts_inbound c.route local) =
    b_is
    ∙ ap (λ (x : Outcome). accepted x native) (answers.outcome ∙ ap (λ (x : Called). x.outcome) same)
    ∙ ap (accepted c.outcome) (native_is ∙ ap (accepts_inbound after.route) own_is
    ∙ ap (λ (r : Route). accepts_inbound r local) route_is) in
    record {
      ready = ready_with_peer a e r a.received after a.exporter p (record (tables_in a.rib p) {
        adjin = routes_after b (tables_in a.rib p).adjin prefix after.route;
      }) ready (ap (λ (k : Kept). k.local) engine_is) shows;
      setup = ap (λ (k : Kept). record { config = a.config; manifest = k.manifest }) engine_is;
      routing = λ trace.
          let u : Routed = ran (routed trace a) Inbound c in
          announced_routing (accepted c.outcome (accepts_inbound c.route local)) u p prefix c.route
          ∙ ap (λ (x : Bool). (set_routes u p (routes_after x (at_tables u p).adjin prefix c.route)).routing)
          (sym accepts)
          ∙ ap (λ (r : Route). (set_routes u p (routes_after b (at_tables u p).adjin prefix r)).routing) (sym route_is)
          ∙ ap (λ (x : Engine). record {
            best = a.rib.best;
            engine = x;
            tables = slice_set a.rib.tables (p - 1) (record (slice_index_or a.rib.tables (p - 1) no_tables) {
              adjin = routes_after b (slice_index_or a.rib.tables (p - 1) no_tables).adjin prefix after.route;
            });
          })
          (sym (ap (λ (k : Kept). k.engine) engine_is))
          ∙ routing_shown e.engine a.rib.own a.rib.best
          (with_routes a.rib p (λ s. routes_after b s prefix after.route)) r shows;
    }

-- ---- receive

-- the chain at receive ran
abbrev received_core : Core → Kept → Edited → Core
received_core a e received = record a { engine = e; received = received }

received : (a : Core) (e : Kept) (sessions : List Owned) (now p : ℕ) (side : Side) (body : List ℕ) (after : Edited)
    (o : Outcome)
    → IsReady a → side ≡ side_of a.config sessions p
    → Answers (receive a.engine.manifest a.engine.local a.engine.engine now side a.received.route body) a.engine e o
    after.route
    → let c = receive a.engine.manifest a.config.local a.engine.engine now
    (side_of a.config sessions p) a.received.route body in
    (o ≡ c.outcome) × (after.route ≡ c.route) × Does (λ setup t. ran t Receive
    (receive setup.manifest (setup.config).local (t.routing).engine now
    (side_of setup.config sessions p) a.received.route body))
    a (received_core a e after)
received a e sessions now p side body after o ready side_is answers =
    let c : Called = receive a.engine.manifest a.config.local a.engine.engine now
    (side_of a.config sessions p) a.received.route body in
    let same : receive a.engine.manifest a.engine.local a.engine.engine now side a.received.route body ≡ c =
    ap (λ (l : Side). receive a.engine.manifest l a.engine.engine now side a.received.route body) ready.local
    ∙ ap (λ (s : Side). receive a.engine.manifest a.config.local a.engine.engine now s a.received.route body) side_is in
    let engine_is : e ≡ record a.engine { engine = c.engine; wrote = c.wrote } =
    answers.after ∙ ap (λ (x : Called). record a.engine { engine = x.engine; wrote = x.wrote }) same in (
      answers.outcome ∙ ap (λ (x : Called). x.outcome) same,
      answers.route ∙ ap (λ (x : Called). x.route) same,
      record {
        ready = ready_same a e a.rib after a.route a.exporter ready (ap (λ (k : Kept). k.local) engine_is)
            (record { own_is = refl; best_is = refl; tables_are = refl });
        setup = ap (λ (k : Kept). record { config = a.config; manifest = k.manifest }) engine_is;
        routing = λ trace. ap (λ (x : Engine). record { best = a.rib.best; engine = x; tables = a.rib.tables })
            (sym (ap (λ (k : Kept). k.engine) engine_is));
      },
    )

-- receive keeps the announced prefixes
pub receives : (a : Core) (e : Kept) (b : Core) (sessions : List Owned) (now p : ℕ) (side : Side) (body : List ℕ)
    (ps : List Prefix) (after : Edited) (o : Outcome)
    → IsReady a → side ≡ side_of a.config sessions p
    → Answers (receive a.engine.manifest a.engine.local a.engine.engine now side a.received.route body) a.engine e o
    after.route
    → true ≡ accepted o true
    → Does (λ setup t. fold (announce_one setup sessions now after.route p) t ps) (received_core a e after) b
    → Does (λ setup t. receive_route setup sessions now t p body ps a.received.route) a b
unfolding receive_route
receives a e b sessions now p side body ps after o ready side_is answers accepts rest =
    let c : Called = receive a.engine.manifest a.config.local a.engine.engine now
    (side_of a.config sessions p) a.received.route body in
    let r = received a e sessions now p side body after o ready side_is answers in
    let both : Does (λ setup t. fold (announce_one setup sessions now after.route p) (ran t Receive
    (receive setup.manifest (setup.config).local (t.routing).engine now
    (side_of setup.config sessions p) a.received.route body)) ps) a b =
    does_then (λ setup t. ran t Receive
    (receive setup.manifest (setup.config).local (t.routing).engine now
    (side_of setup.config sessions p) a.received.route body))
    (λ setup t. fold (announce_one setup sessions now after.route p) t ps) a (received_core a e after) b r.2 rest in
    let yes : true ≡ accepted c.outcome true = accepts ∙ ap (λ (x : Outcome). accepted x true) r.0 in
    does_same (λ setup t. fold (announce_one setup sessions now after.route p) (ran t Receive
    (receive setup.manifest (setup.config).local (t.routing).engine now
    (side_of setup.config sessions p) a.received.route body)) ps)
    (λ setup t. receive_route setup sessions now t p body ps a.received.route) a b
    (λ trace.
    let v : Routed = ran (routed trace a) Receive c in
    ap (λ (x : Route). fold (announce_one (setup_of a) sessions now x p) v ps) r.1
    ∙ ap (λ (x : Bool). if x then fold (announce_one (setup_of a) sessions now c.route p) v ps
    else drop_all (setup_of a) sessions v p ps) yes)
    both

-- receive drops them
pub receives_not : (a : Core) (e : Kept) (b : Core) (sessions : List Owned) (now p : ℕ) (side : Side) (body : List ℕ)
    (ps : List Prefix) (after : Edited) (o : Outcome)
    → IsReady a → side ≡ side_of a.config sessions p
    → Answers (receive a.engine.manifest a.engine.local a.engine.engine now side a.received.route body) a.engine e o
    after.route
    → false ≡ accepted o true
    → Does (λ setup t. drop_all setup sessions t p ps) (received_core a e after) b
    → Does (λ setup t. receive_route setup sessions now t p body ps a.received.route) a b
unfolding receive_route
receives_not a e b sessions now p side body ps after o ready side_is answers accepts rest =
    let c : Called = receive a.engine.manifest a.config.local a.engine.engine now
    (side_of a.config sessions p) a.received.route body in
    let r = received a e sessions now p side body after o ready side_is answers in
    let both : Does (λ setup t. drop_all setup sessions (ran t Receive
    (receive setup.manifest (setup.config).local (t.routing).engine now
    (side_of setup.config sessions p) a.received.route body)) p ps) a b =
    does_then (λ setup t. ran t Receive
    (receive setup.manifest (setup.config).local (t.routing).engine now
    (side_of setup.config sessions p) a.received.route body))
    (λ setup t. drop_all setup sessions t p ps) a (received_core a e after) b r.2 rest in
    let is_not : false ≡ accepted c.outcome true = accepts ∙ ap (λ (x : Outcome). accepted x true) r.0 in
    does_same (λ setup t. drop_all setup sessions (ran t Receive
    (receive setup.manifest (setup.config).local (t.routing).engine now
    (side_of setup.config sessions p) a.received.route body)) p ps)
    (λ setup t. receive_route setup sessions now t p body ps a.received.route) a b
    (λ trace.
    let v : Routed = ran (routed trace a) Receive c in
    ap (λ (x : Bool). if x then fold (announce_one (setup_of a) sessions now c.route p) v ps
    else drop_all (setup_of a) sessions v p ps) is_not)
    both

-- ---- announce

-- another received route, which no definition sees
abbrev read_core : Core → Edited → Core
read_core a received = record a { received = received }

-- the route that was read passes receive, or not
pub announces : (a : Core) (received : Edited) (b : Core) (sessions : List Owned) (now p : ℕ) (body section : List ℕ)
    (u : Update) (ps : List Prefix) → u.section ≡ section
    → nat_le (length (canon (route_in (setup_of a) sessions p section))) MAX_MESSAGE ≡ true
    → received.route ≡ route_in (setup_of a) sessions p section
    → Does (λ setup t. receive_route setup sessions now t p body ps received.route) (read_core a received) b
    → Does (λ setup t. announce setup sessions now t p body u ps) a b
unfolding announce
announces a received b sessions now p body section u ps section_is fits route_is d = record {
  ready = d.ready;
  setup = d.setup;
  routing = λ trace.
      let go : List ℕ → Routing = λ s.
      (receive_if (setup_of a) sessions (nat_le (length (canon (route_in (setup_of a) sessions p s))) MAX_MESSAGE) now
      (routed trace a) p body ps (route_in (setup_of a) sessions p s)).routing in
      ap go section_is
      ∙ ap (λ (x : Bool). (receive_if (setup_of a) sessions x now (routed trace a) p body ps
      (route_in (setup_of a) sessions p section)).routing) fits
      ∙ ap (λ (r : Route). (receive_route (setup_of a) sessions now (routed trace a) p body ps r).routing)
      (sym route_is)
      ∙ d.routing trace;
}

pub announces_not : (a : Core) (received : Edited) (b : Core) (sessions : List Owned) (now p : ℕ)
    (body section : List ℕ)
    (u : Update) (ps : List Prefix) → u.section ≡ section
    → nat_le (length (canon (route_in (setup_of a) sessions p section))) MAX_MESSAGE ≡ false
    → Does (λ setup t. drop_all setup sessions t p ps) (read_core a received) b
    → Does (λ setup t. announce setup sessions now t p body u ps) a b
unfolding announce
announces_not a received b sessions now p body section u ps section_is fits d = record {
  ready = d.ready;
  setup = d.setup;
  routing = λ trace.
      let go : List ℕ → Routing = λ s.
      (receive_if (setup_of a) sessions (nat_le (length (canon (route_in (setup_of a) sessions p s))) MAX_MESSAGE) now
      (routed trace a) p body ps (route_in (setup_of a) sessions p s)).routing in
      ap go section_is
      ∙ ap (λ (x : Bool). (receive_if (setup_of a) sessions x now (routed trace a) p body ps
      (route_in (setup_of a) sessions p section)).routing) fits
      ∙ d.routing trace;
}

-- ---- the whole

-- the routes of an UPDATE that announces prefixes
pub some_routes : (a b c : Core) (sessions : List Owned) (now p : ℕ) (body : List ℕ) (u : Update) (first : Prefix)
    (others ps : List Prefix) → ps ≡ first ∷ others
    → Does (λ setup t. announce setup sessions now t p body u ps) a b
    → Does (λ setup t. withdraw setup sessions t p u) b c
    → Does (λ setup t. routes_of setup sessions now t p body u ps) a c
some_routes a b c sessions now p body u first others ps is one two =
    let both : Does (λ setup t. withdraw setup sessions (announce setup sessions now t p body u ps) p u) a c =
    does_then (λ setup t. announce setup sessions now t p body u ps)
    (λ setup t. withdraw setup sessions t p u) a b c one two in
    subst (λ (l : List Prefix). Does (λ setup t. routes_of setup sessions now t p body u l) a c) (sym is)
    (subst (λ (l : List Prefix). Does
    (λ setup t. withdraw setup sessions (announce setup sessions now t p body u l) p u) a c) is both)

-- and of one that announces none
pub none_routes : (a c : Core) (sessions : List Owned) (now p : ℕ) (body : List ℕ) (u : Update) (ps : List Prefix) → ps
    ≡ []
    → Does (λ setup t. withdraw setup sessions t p u) a c
    → Does (λ setup t. routes_of setup sessions now t p body u ps) a c
none_routes a c sessions now p body u ps is d =
    subst (λ (l : List Prefix). Does (λ setup t. routes_of setup sessions now t p body u l) a c) (sym is) d

-- and then its prefixes are settled
pub then_settled : (a c d : Core) (sessions : List Owned) (now p : ℕ) (body : List ℕ) (u : Update) (set : List Prefix)
    → u ≡ update_parts body → set ≡ set_of prefix_cmp (prefixes u.withdrawn ++ prefixes u.nlri)
    → Does (λ setup t. routes_of setup sessions now t p body u (prefixes u.nlri)) a c
    → Does (λ setup t. fold (settle setup sessions) t set) c d
    → Does (λ setup t. update setup sessions now t p body) a d
unfolding update settle_all
then_settled a c d sessions now p body u set u_is set_is one two =
    let both : Does (λ setup t. fold (settle setup sessions)
    (routes_of setup sessions now t p body u (prefixes u.nlri)) set) a d =
    does_then (λ setup t. routes_of setup sessions now t p body u (prefixes u.nlri))
    (λ setup t. fold (settle setup sessions) t set) a c d one two in
    let named : Does (λ setup t. settle_all setup sessions (routes_of setup sessions now t p body u (prefixes u.nlri))
    (prefixes u.withdrawn ++ prefixes u.nlri)) a d =
    subst (λ (l : List Prefix). Does (λ setup t. fold (settle setup sessions)
    (routes_of setup sessions now t p body u (prefixes u.nlri)) l) a d) set_is both in
    subst (λ (x : Update). Does
    (λ setup t. settle_all setup sessions (routes_of setup sessions now t p body x (prefixes x.nlri))
    (prefixes x.withdrawn ++ prefixes x.nlri)) a d) u_is named

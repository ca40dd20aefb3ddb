-- What a step of the routes keeps: prefixes are prefixes, what a peer is advertised is short enough to be sent, and
-- what a peer was told does not change.
use Rattle.std.proofs.Common.{◌≡◌, ◌≢◌, refl, sym, ◌∙◌, subst, inl, inr, ℕ, ◌-◌, ◌≤◌, Bool, true, false}
use Rattle.std.proofs.Common.{List, [], ◌∷◌, ◌++◌, length, Option, Some, None, fold, filter, get_or, nat_le}
use Rattle.std.proofs.lemmas.Bool.{cases_Bool, leb-true, ltb-true, ltb-false, eqb-true, eqb-false}
use Rattle.std.proofs.lemmas.List.{get_or-set_same, get_or-set_other, set_past, length-set}
use Rattle.std.specs.Prelude.{◌==◌, not, nat_lt, if◌then◌else◌}
use Rattle.std.specs.Map.{keys_of}
use Rattle.std.specs.List.{AllByRecursion, list_any}
use Rattle.std.specs.List.Sorted.{IsStrictlySortedBy}
use Rattle.std.proofs.Math.ListN.{set}
use Rattle.xb_words.specs.Octets.{AreOctets}
use Rattle.xb_words.specs.Table.{set_of, value_at, with_value, without}
use Rattle.xb_words.proofs.TableLemmas.{AllByRecursion-with_value, AllByRecursion-without, IsRising-with_value}
use Rattle.xb_words.proofs.TableLemmas.{IsRising-without}
use Rattle.xb_domain.specs.declared.point.Point.TheVariants.{Receive, Inbound, Outbound}
use Rattle.xb_domain.specs.declared.side.Side.{Side}
use Rattle.xb_values.specs.Prefixes.{Prefix, Sections, IsPrefix, prefix_cmp, prefixes}
use Rattle.xb_values.proofs.PrefixLemmas.{prefix_total}
use Rattle.xb_wire.specs.declared.numbers.TheConstants.{MAX_SECTION}
use Rattle.xb_wire.specs.Messages.{Update, update_parts}
use Rattle.bgp_attr.specs.Routes.{Route}
use Rattle.bgp_fsm.specs.Sessions.{Owned}
use Rattle.xbgp_config.specs.Configs.{same_prefix}
use Rattle.xbgp_manifest.specs.Manifests.{Manifest}
use Rattle.xbgp_view.specs.Views.{Routes}
use Rattle.spk_native.specs.Export.{carry, native_section}
use Rattle.spk_native.specs.Filters.{accepts_inbound, accepts_outbound}
use Rattle.spk_native.specs.Receipt.{wire}
use Rattle.xbgp_points.specs.Points.{Engine, encode, given_section, receive, inbound, outbound}
use Rattle.spk_model.specs.declared.host.Setup.{Setup}
use Rattle.spk_model.specs.Sources.{is_up, is_wide, peer_numbers, side_of}
use Rattle.spk_model.specs.Choosing.{Candidate, Trace}
use Rattle.spk_model.specs.Tournaments.{choose}
use Rattle.spk_model.specs.Exporting.{Exported, accepted, encoded_for, exported, section_or, short_enough}
use Rattle.spk_model.specs.Routing.{Tables, Routed, Chosen, best_of, no_tables, at_tables, set_tables, set_routes}
use Rattle.spk_model.specs.Routing.{set_adv, ran_all, set_best, without_all, candidates, decided, decide, advertise}
use Rattle.spk_model.specs.Routing.{export_best, export, settle, settle_all, export_all, announce_one, drop_all}
use Rattle.spk_model.specs.Routing.{receive_route, receive_if, announce, route_in, withdraw, routes_of, update, lose}
use Rattle.spk_model.proofs.HeardLemmas.{AreAdvertised, AreTold, all-append, all-keys, all-set_of}
use Rattle.spk_model.proofs.OthersLemmas.{part_kept}
use Rattle.spk_model.proofs.PrefixesLemmas.{announced_are_prefixes, withdrawn_are_prefixes}

-- one element of a list is changed, and each still has a property
pub part_all : {A : Type 0} (P : A → Type 0) (xs : List A) (i j : ℕ) (x d : A) → P x → P (get_or xs j d)
    → P (get_or (set xs i x) j d)
part_all P xs i j x d new old =
    elim (cases_Bool (i == j)) [
      | inr other ↦
          let differ : j ≢ i = λ e. eqb-false i j other (sym e) in
          subst P (sym (get_or-set_other xs i j x d differ)) old
      | inl e ↦
          let here : i ≡ j = eqb-true i j e in
          elim (cases_Bool (nat_lt i (length xs))) [
            | inl fits ↦
                subst (λ k. P (get_or (set xs i x) k d)) here
                (subst P (sym (get_or-set_same xs i x d (ltb-true i (length xs) fits))) new)
            | inr past ↦
                subst (λ (ys : List _). P (get_or ys j d)) (sym (set_past xs i x (ltb-false i (length xs) past))) old
          ]
    ]

-- the tables of a peer
pub record AreSound (t : Tables) : Type 0 where
  pub adjin : AllByRecursion (λ e. IsPrefix e.0) t.adjin
  pub adv : AreAdvertised t.adv
  pub told : AreTold t.told

pub no_tables_sound : AreSound no_tables
unfolding IsStrictlySortedBy
no_tables_sound = record {
  adjin = tt;
  adv = record { short = tt; rising = tt };
  told = record { prefixes = tt; rising = tt };
}

-- a section is short enough to be sent, if there is one
abbrev IsShortSection : Option (List ℕ) → Type 0
IsShortSection None = Unit {0}
IsShortSection (Some section) = length section ≤ MAX_SECTION

short_enough_is_short : (section : List ℕ) → IsShortSection (short_enough section)
short_enough_is_short section =
    elim (cases_Bool (nat_le (length section) MAX_SECTION)) [
      | inl fits ↦ rw fits (leb-true (length section) MAX_SECTION fits)
      | inr over ↦ rw over tt
    ]

if_short : (b : Bool) (x y : Exported) → IsShortSection x.section → IsShortSection y.section
    → IsShortSection (if b then x else y).section
if_short true x y p q = p
if_short false x y p q = q

exported_is_short : (manifest : Manifest) (local : Side) (default : ℕ) (engine : Engine) (peer : Side) (wide : Bool)
    (source : Side) (prefix : Prefix) (best : Route)
    → IsShortSection (exported manifest local default engine peer wide source prefix best).section
unfolding exported
exported_is_short manifest local default engine peer wide source prefix best =
    let c = outbound manifest local engine peer source prefix best (carry best source peer local default) in
    let runs = (Outbound, c.outcome) ∷ [] in
    let e = encode manifest local c.engine peer source best c.route in
    if_short (accepted c.outcome (accepts_outbound source peer))
    (encoded_for manifest local c.engine peer wide source best c.route runs)
    (record { section = None; engine = c.engine; trace = runs })
    (short_enough_is_short (wire (section_or (given_section e) (native_section c.route)) wide)) tt

-- the routes of a table without some prefixes
without_all_are : (routes : Routes) (ps : List Prefix) → AllByRecursion (λ e. IsPrefix e.0) routes
    → AllByRecursion (λ e. IsPrefix e.0) (without_all routes ps)
without_all_are routes [] are = are
without_all_are routes (p ∷ ps) are =
    without_all_are (without prefix_cmp routes p) ps
    (AllByRecursion-without prefix_cmp (λ e. IsPrefix e.0) routes p are)

-- the routes, with what a peer was told, and the number of peers
pub record IsSound (q : ℕ) (told : Sections) (n : ℕ) (t : Routed) : Type 0 where
  pub best : AllByRecursion (λ e. IsPrefix e.0) (t.routing).best
  pub each : (p : ℕ) → AreSound (at_tables t p)
  pub told_is : (at_tables t q).told ≡ told
  pub long : length (t.routing).tables ≡ n

-- a peer was told what it was told
pub sound_itself : (q : ℕ) (told : Sections) (n : ℕ) (t : Routed) → IsSound q told n t
    → IsSound q (at_tables t q).told n t
sound_itself q told n t s = record { best = s.best; each = s.each; told_is = refl; long = s.long }

module _ (q : ℕ) (told : Sections) (n : ℕ) where
  -- a step that keeps this
  abbrev Keeps : (Routed → Routed) → Type 0
  Keeps f = (t : Routed) → IsSound q told n t → IsSound q told n (f t)

  fold-sound : {A : Type 0} (f : Routed → A → Routed) → ((a : A) → Keeps (λ t. f t a)) → (xs : List A)
      → Keeps (λ t. fold f t xs)
  fold-sound f keeps [] t s = s
  fold-sound f keeps (x ∷ xs) t s = fold-sound f keeps xs (f t x) (keeps x t s)

  fold_prefixes-sound : (f : Routed → Prefix → Routed) → ((p : Prefix) → IsPrefix p → Keeps (λ t. f t p))
      → (ps : List Prefix) → AllByRecursion IsPrefix ps → Keeps (λ t. fold f t ps)
  fold_prefixes-sound f keeps [] all t s = s
  fold_prefixes-sound f keeps (p ∷ ps) all t s = fold_prefixes-sound f keeps ps all.1 (f t p) (keeps p all.0 t s)

  if-sound : (b : Bool) (f g : Routed → Routed) → Keeps f → Keeps g → Keeps (λ t. if b then f t else g t)
  if-sound true f g x y t s = x t s
  if-sound false f g x y t s = y t s

  ran_all-sound : (engine : Engine) (runs : Trace) → Keeps (λ t. ran_all t engine runs)
  ran_all-sound engine runs t s = record { best = s.best; each = s.each; told_is = s.told_is; long = s.long }

  set_tables-sound : (p : ℕ) (x : Tables) (t : Routed) → AreSound x → x.told ≡ (at_tables t p).told
      → IsSound q told n t → IsSound q told n (set_tables t p x)
  set_tables-sound p x t new same s = record {
    best = s.best;
    each = λ r. part_all AreSound (t.routing).tables (p - 1) (r - 1) x no_tables new (s.each r);
    told_is =
        part_kept (λ (y : Tables). y.told) (t.routing).tables (p - 1) (q - 1) x no_tables same ∙ s.told_is;
    long = length-set (t.routing).tables (p - 1) x ∙ s.long;
  }

  set_routes-sound : (p : ℕ) (x : Routes) → AllByRecursion (λ e. IsPrefix e.0) x → Keeps (λ t. set_routes t p x)
  set_routes-sound p x are t s =
      set_tables-sound p (record (at_tables t p) { adjin = x }) t
      (record { adjin = are; adv = (s.each p).adv; told = (s.each p).told }) refl s

  set_adv-sound : (p : ℕ) (prefix : Prefix) (section : Option (List ℕ)) → IsPrefix prefix → IsShortSection section
      → Keeps (λ t. set_adv t p prefix section)
  set_adv-sound p prefix None is short t s =
      let adv = (at_tables t p).adv in
      set_tables-sound p (record (at_tables t p) { adv = without prefix_cmp adv prefix }) t
      (record {
        adjin = (s.each p).adjin;
        adv = record {
          short = AllByRecursion-without prefix_cmp _ adv prefix ((s.each p).adv).short;
          rising = IsRising-without prefix_cmp prefix_total adv prefix ((s.each p).adv).rising;
        };
        told = (s.each p).told;
      }) refl s
  set_adv-sound p prefix (Some section) is short t s =
      let adv = (at_tables t p).adv in
      set_tables-sound p (record (at_tables t p) { adv = with_value prefix_cmp adv prefix section }) t
      (record {
        adjin = (s.each p).adjin;
        adv = record {
          short =
              AllByRecursion-with_value prefix_cmp _ adv prefix section (is, short) (λ e same old. (old.0, short))
              ((s.each p).adv).short;
          rising = IsRising-with_value prefix_cmp prefix_total adv prefix section ((s.each p).adv).rising;
        };
        told = (s.each p).told;
      }) refl s

  set_best-sound : (prefix : Prefix) (best : Option Chosen) → IsPrefix prefix → Keeps (λ t. set_best t prefix best)
  set_best-sound prefix None is t s = record {
    best = AllByRecursion-without prefix_cmp (λ e. IsPrefix e.0) (t.routing).best prefix s.best;
    each = s.each;
    told_is = s.told_is;
    long = s.long;
  }
  set_best-sound prefix (Some best) is t s = record {
    best =
        AllByRecursion-with_value prefix_cmp (λ e. IsPrefix e.0) (t.routing).best prefix best is (λ e same old. old)
        s.best;
    each = s.each;
    told_is = s.told_is;
    long = s.long;
  }

  module _ (setup : Setup) (sessions : List Owned) where
    decided-sound : (prefix : Prefix) → IsPrefix prefix → (cs : List Candidate)
        → Keeps (λ t. decided setup sessions t prefix cs)
    decided-sound prefix is [] t s = set_best-sound prefix None is t s
    decided-sound prefix is (c ∷ cs) t s =
        let x = choose setup.manifest (setup.config).local (t.routing).engine prefix (c ∷ cs) in
        set_best-sound prefix (Some (best_of (get_or (c ∷ cs) x.index c))) is (ran_all t x.engine x.trace)
        (ran_all-sound x.engine x.trace t s)

    decide-sound : (prefix : Prefix) → IsPrefix prefix → Keeps (λ t. decide setup sessions t prefix)
    unfolding decide
    decide-sound prefix is t s = decided-sound prefix is (candidates setup sessions t prefix) t s

    advertise-sound : (p : ℕ) (prefix : Prefix) (x : Exported) → IsPrefix prefix → IsShortSection x.section
        → Keeps (λ t. advertise setup sessions t p prefix x)
    advertise-sound p prefix x is short t s =
        set_adv-sound p prefix x.section is short (ran_all t x.engine x.trace) (ran_all-sound x.engine x.trace t s)

    export_best-sound : (p : ℕ) (prefix : Prefix) (best : Option Chosen) → IsPrefix prefix
        → Keeps (λ t. export_best setup sessions t p prefix best)
    export_best-sound p prefix None is t s = set_adv-sound p prefix None is tt t s
    export_best-sound p prefix (Some best) is t s =
        let peer = side_of setup.config sessions p in
        let source = side_of setup.config sessions best.source in
        let wide = is_wide sessions p in
        let local = (setup.config).local in
        let default = (setup.config).local_pref in
        let engine = (t.routing).engine in
        advertise-sound p prefix
        (exported setup.manifest local default engine peer wide source prefix best.route) is
        (exported_is_short setup.manifest local default engine peer wide source prefix best.route) t s

    export-sound : (prefix : Prefix) → IsPrefix prefix → (p : ℕ) → Keeps (λ t. export setup sessions prefix t p)
    unfolding export
    export-sound prefix is p t s =
        let best = value_at prefix_cmp (t.routing).best prefix in
        if-sound (is_up sessions p) (λ u. export_best setup sessions u p prefix best) (λ u. u)
        (λ u v. export_best-sound p prefix best is u v) (λ u v. v) t s

    settle-sound : (prefix : Prefix) → IsPrefix prefix → Keeps (λ t. settle setup sessions t prefix)
    unfolding settle
    settle-sound prefix is t s =
        fold-sound (export setup sessions prefix) (export-sound prefix is) (peer_numbers sessions)
        (decide setup sessions t prefix) (decide-sound prefix is t s)

    pub settle_all-sound : (ps : List Prefix) → AllByRecursion IsPrefix ps
        → Keeps (λ t. settle_all setup sessions t ps)
    unfolding settle_all
    settle_all-sound ps are t s =
        fold_prefixes-sound (settle setup sessions) settle-sound (set_of prefix_cmp ps)
        (all-set_of IsPrefix ps are) t s

    pub export_all-sound : (p : ℕ) → Keeps (λ t. export_all setup sessions t p)
    unfolding export_all
    export_all-sound p t s =
        fold_prefixes-sound (λ u prefix. export setup sessions prefix u p) (λ prefix is. export-sound prefix is p)
        (keys_of (t.routing).best) (all-keys IsPrefix (t.routing).best s.best) t s

    announce_one-sound : (now : ℕ) (route : Route) (p : ℕ) (prefix : Prefix) → IsPrefix prefix
        → Keeps (λ t. announce_one setup sessions now route p t prefix)
    unfolding announce_one
    announce_one-sound now route p prefix is t s =
        let c = inbound setup.manifest (setup.config).local (t.routing).engine now
        (side_of setup.config sessions p) prefix route in
        let runs = (Inbound, c.outcome) ∷ [] in
        if-sound (accepted c.outcome (accepts_inbound c.route (setup.config).local))
        (λ v. set_routes v p (with_value prefix_cmp (at_tables v p).adjin prefix c.route))
        (λ v. set_routes v p (without prefix_cmp (at_tables v p).adjin prefix))
        (λ v w. set_routes-sound p (with_value prefix_cmp (at_tables v p).adjin prefix c.route)
        (AllByRecursion-with_value prefix_cmp (λ e. IsPrefix e.0) (at_tables v p).adjin prefix c.route is
        (λ e same old. old) (w.each p).adjin) v w)
        (λ v w. set_routes-sound p (without prefix_cmp (at_tables v p).adjin prefix)
        (AllByRecursion-without prefix_cmp (λ e. IsPrefix e.0) (at_tables v p).adjin prefix (w.each p).adjin) v w)
        (ran_all t c.engine runs) (ran_all-sound c.engine runs t s)

    drop_all-sound : (p : ℕ) (ps : List Prefix) → Keeps (λ t. drop_all setup sessions t p ps)
    drop_all-sound p ps t s =
        set_routes-sound p (without_all (at_tables t p).adjin ps)
        (without_all_are (at_tables t p).adjin ps (s.each p).adjin) t s

    receive_route-sound : (now p : ℕ) (body : List ℕ) (ps : List Prefix) → AllByRecursion IsPrefix ps
        → (route : Route) → Keeps (λ t. receive_route setup sessions now t p body ps route)
    unfolding receive_route
    receive_route-sound now p body ps are route t s =
        let c = receive setup.manifest (setup.config).local (t.routing).engine now
        (side_of setup.config sessions p) route body in
        let runs = (Receive, c.outcome) ∷ [] in
        if-sound (accepted c.outcome true) (λ v. fold (announce_one setup sessions now c.route p) v ps)
        (λ v. drop_all setup sessions v p ps)
        (λ v w. fold_prefixes-sound (announce_one setup sessions now c.route p) (announce_one-sound now c.route p) ps
        are v w)
        (λ v w. drop_all-sound p ps v w)
        (ran_all t c.engine runs) (ran_all-sound c.engine runs t s)

    receive_if-sound : (fits : Bool) (now p : ℕ) (body : List ℕ) (ps : List Prefix) → AllByRecursion IsPrefix ps
        → (route : Route) → Keeps (λ t. receive_if setup sessions fits now t p body ps route)
    receive_if-sound true now p body ps are route t s = receive_route-sound now p body ps are route t s
    receive_if-sound false now p body ps are route t s = drop_all-sound p ps t s

    announce-sound : (now p : ℕ) (body : List ℕ) (u : Update) (ps : List Prefix) → AllByRecursion IsPrefix ps
        → Keeps (λ t. announce setup sessions now t p body u ps)
    unfolding announce
    announce-sound now p body u ps are t s =
        receive_if-sound _ now p body ps are (route_in setup sessions p u.section) t s

    withdraw-sound : (p : ℕ) (u : Update) → Keeps (λ t. withdraw setup sessions t p u)
    unfolding withdraw
    withdraw-sound p u t s =
        drop_all-sound p
        (filter (λ w. not (list_any (same_prefix w) (prefixes u.nlri))) (prefixes u.withdrawn)) t s

    routes_of-sound : (now p : ℕ) (body : List ℕ) (u : Update) (ps : List Prefix) → AllByRecursion IsPrefix ps
        → Keeps (λ t. routes_of setup sessions now t p body u ps)
    routes_of-sound now p body u [] are t s = withdraw-sound p u t s
    routes_of-sound now p body u (prefix ∷ ps) are t s =
        withdraw-sound p u (announce setup sessions now t p body u (prefix ∷ ps))
        (announce-sound now p body u (prefix ∷ ps) are t s)

    pub update-sound : (now p : ℕ) (body : List ℕ) → AreOctets body
        → Keeps (λ t. update setup sessions now t p body)
    unfolding update
    update-sound now p body are t s =
        let u = update_parts body in
        let fresh = announced_are_prefixes body are in
        settle_all-sound (prefixes u.withdrawn ++ prefixes u.nlri)
        (all-append IsPrefix (prefixes u.withdrawn) (prefixes u.nlri) (withdrawn_are_prefixes body are) fresh)
        (routes_of setup sessions now t p body u (prefixes u.nlri))
        (routes_of-sound now p body u (prefixes u.nlri) fresh t s)

-- the tables of a peer go
cleared-sound : (q : ℕ) (told : Sections) (n p : ℕ) (t : Routed) → IsSound q told n t
    → let u = set_tables t p no_tables in IsSound q (at_tables u q).told n u
cleared-sound q told n p t s = record {
  best = s.best;
  each = λ r. part_all AreSound (t.routing).tables (p - 1) (r - 1) no_tables no_tables no_tables_sound (s.each r);
  told_is = refl;
  long = length-set (t.routing).tables (p - 1) no_tables ∙ s.long;
}

-- a session that goes down leaves another peer told what it was told, and its own peer nothing
pub lose-sound : (q : ℕ) (told : Sections) (n : ℕ) (setup : Setup) (sessions : List Owned) (p : ℕ) (t : Routed)
    → IsSound q told n t
    → IsSound q (at_tables (set_tables t p no_tables) q).told n (lose setup sessions t p)
unfolding lose
lose-sound q told n setup sessions p t s =
    let u = set_tables t p no_tables in
    settle_all-sound q (at_tables u q).told n setup sessions (keys_of (at_tables t p).adjin)
    (all-keys IsPrefix (at_tables t p).adjin (s.each p).adjin) u (cleared-sound q told n p t s)

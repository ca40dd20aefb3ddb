-- What an act of a session does.
use Rattle.std.proofs.Common.{◌≡◌, ◌≤◌, ◌<◌, ◌-◌, refl, sym, ◌∙◌, ap, subst, ℕ, Bool, true, false, List}
use Rattle.std.proofs.Common.{[], ◌∷◌, ◌++◌, ◌+◌, fold, take, length, Some, arith, Vec}
use Rattle.std.specs.Prelude.{◌||◌, slice_index_or}
use Rattle.std.specs.List.{slice_set}
use Rattle.std.specs.Vec.{with_item}
use Rattle.std.specs.declared.alloc.Global.{Global}
use Rattle.std.specs.List.{slice_get}
use Rattle.std.proofs.lemmas.List.{set-set, get_or_default, take_more, take_all}
use Rattle.std.proofs.lemmas.Option.{slice_get_within, get_or_from_slice_get}
use Rattle.std.proofs.Math.ListN.{length-set}
use Rattle.xb_domain.specs.Outputs.{Output, came_up, went_down}
use Rattle.bgp_fsm.specs.declared.Act.{Act}
use Rattle.bgp_fsm.specs.declared.Act.TheVariants.{SendOpen, SendKeepalive, SendNotice, Up, Down, Close}
use Rattle.bgp_fsm.specs.declared.Stimulus.{Stimulus}
use Rattle.bgp_fsm.specs.Sessions.{Owned, row}
use Rattle.bgp_write.specs.Written.{wide_open_message, keepalive_message, notice_message}
use Rattle.xbgp_config.specs.Configs.{Config}
use Rattle.xbgp_config.specs.declared.limits.TheConstants.{MAX_PEERS}
use Rattle.spk_model.specs.declared.host.Setup.{Setup}
use Rattle.spk_model.specs.Sources.{session_of}
use Rattle.spk_model.specs.Routing.{Routing, export_all, lose}
use Rattle.spk_model.specs.Turning.{Turn, control, act, react, set_session}
use Rattle.spk_session.specs.declared.links.Links.{Links}
use Rattle.spk_session.specs.Routed.{Reroutes}
use Rattle.spk_session.specs.Meaning.{Core, core_of, speaker_of, turn_of, Does, IsReady, IsEven, HasPeer}
use Rattle.spk_session.specs.Acting.{sends, closed, closes, is_close, flags_after, reacted, reaction_of}
use Rattle.spk_session.proofs.Following.{does_push, does_then, does_same}
use Rattle.spk_session.proofs.Dropping.{kept-set}

sends_even : (l : Links) (p : ℕ) (piece : List ℕ) → IsEven l → IsEven (sends p piece l)
sends_even l p piece even = record {
  few = even.few;
  rests = length-set (l.rests).items (p - 1) [] ∙ even.rests;
  flags = even.flags;
  room = even.room;
}

-- an act that is another by name
pub by_act : (what x : Act) (p : ℕ) (extra : List ℕ) (a b : Core) → what ≡ x
    → Does (λ s t. act s p extra t x) a b → Does (λ s t. act s p extra t what) a b
by_act what x p extra a b is d = subst (λ (w : Act). Does (λ s t. act s p extra t w) a b) (sym is) d

-- a message left after the rest
pub message_sent : (setup : Setup) (routing : Routing) (l : Links) (p : ℕ) (piece : List ℕ)
    → IsReady (core_of setup routing l)
    → Does (λ s t. control s t p piece) (core_of setup routing l) (core_of setup routing (sends p piece l))
unfolding control
message_sent setup routing l p piece ready = record {
  ready = record { even = sends_even l p piece ready.even; count = ready.count };
  setup = refl;
  speaker = λ waits trace. refl;
  outputs = λ waits trace. refl;
}

-- the OPEN of a configuration
abbrev pub own_open : Config → List ℕ
own_open config = wide_open_message (config.local).asn config.hold (config.local).id

pub open_sent : (setup : Setup) (routing : Routing) (config : Config) (l new : Links) (p : ℕ) (extra : List ℕ)
    → IsReady (core_of setup routing l) → config ≡ setup.config → new ≡ sends p (own_open config) l
    → Does (λ s t. act s p extra t SendOpen) (core_of setup routing l) (core_of setup routing new)
unfolding act
open_sent setup routing config l new p extra ready own is =
    let d = message_sent setup routing l p (own_open setup.config) ready in
    subst (λ (x : Links). Does (λ s t. act s p extra t SendOpen) (core_of setup routing l) (core_of setup routing x))
    (sym (is ∙ ap (λ (k : Config). sends p (own_open k) l) own))
    (record { ready = d.ready; setup = refl; speaker = d.speaker; outputs = d.outputs })

pub keepalive_sent : (setup : Setup) (routing : Routing) (l new : Links) (p : ℕ) (extra : List ℕ)
    → IsReady (core_of setup routing l) → new ≡ sends p keepalive_message l
    → Does (λ s t. act s p extra t SendKeepalive) (core_of setup routing l) (core_of setup routing new)
unfolding act
keepalive_sent setup routing l new p extra ready is =
    let d = message_sent setup routing l p keepalive_message ready in
    subst (λ (x : Links). Does (λ s t. act s p extra t SendKeepalive) (core_of setup routing l)
    (core_of setup routing x))
    (sym is)
    (record { ready = d.ready; setup = refl; speaker = d.speaker; outputs = d.outputs })

pub notice_sent : (setup : Setup) (routing : Routing) (l new : Links) (p code subcode : ℕ) (extra : List ℕ)
    → IsReady (core_of setup routing l) → new ≡ sends p (notice_message code subcode extra) l
    → Does (λ s t. act s p extra t (SendNotice code subcode)) (core_of setup routing l) (core_of setup routing new)
unfolding act
notice_sent setup routing l new p code subcode extra ready is =
    let d = message_sent setup routing l p (notice_message code subcode extra) ready in
    subst
    (λ (x : Links). Does (λ s t. act s p extra t (SendNotice code subcode)) (core_of setup routing l)
    (core_of setup routing x))
    (sym is)
    (record { ready = d.ready; setup = refl; speaker = d.speaker; outputs = d.outputs })

-- other routes, of the same setup
moved_ready : (setup setup' : Setup) (routing routing' : Routing) (l : Links) (os : List Output)
    → IsReady (core_of setup routing l) → setup' ≡ setup
    → IsReady (core_of setup' routing' (record l { outputs = os }))
moved_ready setup setup' routing routing' l os ready same = record {
  even = record {
    few = (ready.even).few;
    rests = (ready.even).rests;
    flags = (ready.even).flags;
    room = (ready.even).room;
  };
  count = ready.count ∙ ap (λ (s : Setup). length (s.config).peers) (sym same);
}

pub up_done : (setup setup' : Setup) (routing routing' : Routing) (l : Links) (sessions : List Owned) (os : List Output)
    (p : ℕ) (extra : List ℕ)
    → IsReady (core_of setup routing l) → os ≡ l.outputs ++ came_up p ∷ [] → setup' ≡ setup
    → sessions ≡ (l.sessions).items
    → Reroutes (λ t. export_all setup sessions t p) routing routing'
    → Does (λ s t. act s p extra t Up) (core_of setup routing l)
    (core_of setup' routing' (record l { outputs = os }))
unfolding act
up_done setup setup' routing routing' l sessions os p extra ready is same all goes = record {
  ready = moved_ready setup setup' routing routing' l os ready same;
  setup = same;
  speaker = λ waits trace. ap (λ (r : Routing). speaker_of waits (core_of setup r l))
      (ap (λ (ss : List Owned). (export_all setup ss (record { routing = routing; trace = trace }) p).routing) (sym all)
      ∙ goes trace);
  outputs = λ waits trace. sym is;
}

pub down_done : (setup setup' : Setup) (routing routing' : Routing) (l : Links) (sessions : List Owned)
    (os : List Output)
    (p : ℕ) (extra : List ℕ)
    → IsReady (core_of setup routing l) → os ≡ l.outputs ++ went_down p ∷ [] → setup' ≡ setup
    → sessions ≡ (l.sessions).items
    → Reroutes (λ t. lose setup sessions t p) routing routing'
    → Does (λ s t. act s p extra t Down) (core_of setup routing l)
    (core_of setup' routing' (record l { outputs = os }))
unfolding act
down_done setup setup' routing routing' l sessions os p extra ready is same all goes = record {
  ready = moved_ready setup setup' routing routing' l os ready same;
  setup = same;
  speaker = λ waits trace. ap (λ (r : Routing). speaker_of waits (core_of setup r l))
      (ap (λ (ss : List Owned). (lose setup ss (record { routing = routing; trace = trace }) p).routing) (sym all)
      ∙ goes trace);
  outputs = λ waits trace. sym is;
}

pub close_done : (setup : Setup) (routing : Routing) (l new : Links) (p : ℕ) (extra : List ℕ)
    → IsReady (core_of setup routing l) → HasPeer l p → new ≡ closed p l
    → Does (λ s t. act s p extra t Close) (core_of setup routing l) (core_of setup routing new)
unfolding act
close_done setup routing l new p extra ready peer is =
    let within : p - 1 < length (l.dropped).items = omega (arith, (ready.even).flags, peer.0, peer.1) in
    subst (λ (x : Links). Does (λ s t. act s p extra t Close) (core_of setup routing l) (core_of setup routing x))
    (sym is)
    (record {
      ready = record {
        even = record {
          few = (ready.even).few;
          rests = length-set (l.rests).items (p - 1) [] ∙ (ready.even).rests;
          flags = length-set (l.dropped).items (p - 1) true ∙ (ready.even).flags;
          room = (ready.even).room;
        };
        count = ready.count;
      };
      setup = refl;
      speaker = λ waits trace.
          ap
          (λ (ws : List (List ℕ)). record {
            clock = l.clock;
            sessions = (l.sessions).items;
            rests = slice_set (l.rests).items (p - 1) [];
            waits = ws;
            routing = routing;
          })
          (sym (kept-set (l.dropped).items (p - 1) waits within));
      outputs = λ waits trace. refl;
    })

or_false : (b : Bool) → (b || false) ≡ b
or_false true = refl
or_false false = refl

or_assoc : (a b c : Bool) → (a || (b || c)) ≡ ((a || b) || c)
or_assoc true b c = refl
or_assoc false b c = refl

-- one more act
pub closes-append : (xs : List Act) (x : Act) → closes (xs ++ x ∷ []) ≡ (closes xs || is_close x)
closes-append [] x = or_false (is_close x)
closes-append (y ∷ xs) x = ap (λ (b : Bool). is_close y || b) (closes-append xs x)
    ∙ or_assoc (is_close y) (closes xs) (is_close x)

flags_twice : (p : ℕ) (a b : Bool) (flags : List Bool)
    → flags_after p b (flags_after p a flags) ≡ flags_after p (a || b) flags
flags_twice p true true flags = set-set flags (p - 1) true true
flags_twice p true false flags = refl
flags_twice p false b flags = refl

pub flags-push : (p : ℕ) (xs ys : List Act) (x : Act) (first second third : List Bool) → ys ≡ xs ++ x ∷ []
    → second ≡ flags_after p (closes xs) first → third ≡ flags_after p (is_close x) second
    → third ≡ flags_after p (closes ys) first
flags-push p xs ys x first second third is one two =
    two ∙ ap (flags_after p (is_close x)) one ∙ flags_twice p (closes xs) (is_close x) first
    ∙ ap (λ (b : Bool). flags_after p b first) (sym (ap closes is ∙ closes-append xs x))

-- the acts up to one, and with it
pub acts_more : (acts : List Act) (i : ℕ) (x : Act) → slice_get acts i ≡ Some x
    → take (i + 1) acts ≡ take i acts ++ x ∷ []
acts_more acts i x is =
    take_more acts i x (slice_get_within acts i x is)
    ∙ ap (λ (y : Act). take i acts ++ y ∷ []) (get_or_from_slice_get acts i x x is)

pub act_then : (acts : List Act) (i : ℕ) (x : Act) (p : ℕ) (extra : List ℕ) (a b c : Core) → slice_get acts i ≡ Some x
    → Does (λ s t. fold (act s p extra) t (take i acts)) a b → Does (λ s t. act s p extra t x) b c
    → Does (λ s t. fold (act s p extra) t (take (i + 1) acts)) a c
act_then acts i x p extra a b c is so_far d =
    does_push (λ s t y. act s p extra t y) (take i acts) (take (i + 1) acts) x a b c (acts_more acts i x is) so_far d

pub all_acts : (acts : List Act) (i : ℕ) → length acts ≤ i → take i acts ≡ acts
all_acts acts i far = take_all i acts far

-- a peer stays a peer
pub same_peer : (l new : Links) (p : ℕ) → new.sessions ≡ l.sessions → HasPeer l p → HasPeer new p
same_peer l new p same peer =
    (peer.0, subst (λ (ss : Vec Owned Global). p ≤ length ss.items) (sym same) peer.1)

-- the session of a peer is another
abbrev pub with_session : Links → ℕ → Owned → Links
with_session l p new = record l { sessions = with_item l.sessions (p - 1) new }

pub session_ready : (setup : Setup) (routing : Routing) (l : Links) (p : ℕ) (new : Owned)
    → IsReady (core_of setup routing l) → IsReady (core_of setup routing (with_session l p new))
session_ready setup routing l p new ready =
    let long : length (slice_set (l.sessions).items (p - 1) new) ≡ length (l.sessions).items =
    length-set (l.sessions).items (p - 1) new in
    record {
      even = record {
        few = subst (λ (n : ℕ). n ≤ MAX_PEERS) (sym long) (ready.even).few;
        rests = (ready.even).rests ∙ sym long;
        flags = (ready.even).flags ∙ sym long;
        room = (ready.even).room;
      };
      count = long ∙ ready.count;
    }

session_done : (setup : Setup) (routing : Routing) (l : Links) (p : ℕ) (new : Owned) → IsReady (core_of setup routing l)
    → Does (λ s t. set_session t p new) (core_of setup routing l) (core_of setup routing (with_session l p new))
session_done setup routing l p new ready = record {
  ready = session_ready setup routing l p new ready;
  setup = refl;
  speaker = λ waits trace. refl;
  outputs = λ waits trace. refl;
}

reacts_so : (setup : Setup) (t : Turn) (p : ℕ) (what : Stimulus) (extra : List ℕ) (own new : Owned) (acts : List Act)
    → own ≡ session_of (t.speaker).sessions p → acts ≡ (row own.own own.session (t.speaker).clock what).acts
    → new ≡ record own { session = (row own.own own.session (t.speaker).clock what).session }
    → fold (act setup p extra) (set_session t p new) acts ≡ react setup t p what extra
unfolding react
reacts_so setup t p what extra own new acts same does after =
    ap (λ (xs : List Act). fold (act setup p extra) (set_session t p new) xs) does
    ∙ ap
    (λ (x : Owned). fold (act setup p extra) (set_session t p x) (row own.own own.session (t.speaker).clock what).acts)
    after
    ∙ ap
    (λ (x : Owned). fold (act setup p extra)
    (set_session t p (record x { session = (row x.own x.session (t.speaker).clock what).session }))
    (row x.own x.session (t.speaker).clock what).acts)
    same

own_read : (l : Links) (p : ℕ) (own : Owned) → HasPeer l p → own ≡ slice_index_or (l.sessions).items (p - 1) own
    → own ≡ session_of (l.sessions).items p
own_read l p own peer is =
    let inside : p - 1 < length (l.sessions).items = omega (arith, peer.0, peer.1) in
    is ∙ get_or_default (l.sessions).items (p - 1) own (session_of [] p) inside

-- a session reacted, and its acts were done
pub react_done : (setup : Setup) (routing : Routing) (l : Links) (p : ℕ) (what : Stimulus) (extra : List ℕ)
    (own new : Owned) (acts : List Act) (c : Core)
    → IsReady (core_of setup routing l) → HasPeer l p → own ≡ slice_index_or (l.sessions).items (p - 1) own
    → acts ≡ (row own.own own.session l.clock what).acts
    → new ≡ record own { session = (row own.own own.session l.clock what).session }
    → Does (λ s t. fold (act s p extra) t acts) (core_of setup routing (with_session l p new)) c
    → Does (λ s t. react s t p what extra) (core_of setup routing l) c
react_done setup routing l p what extra own new acts c ready peer is does after d =
    let same : own ≡ session_of (l.sessions).items p = own_read l p own peer is in
    let a = core_of setup routing l in
    does_same (λ s t. fold (act s p extra) (set_session t p new) acts) (λ s t. react s t p what extra) a c
    (λ waits trace. reacts_so setup (turn_of waits trace a) p what extra own new acts same does after)
    (does_then (λ s t. set_session t p new) (λ s t. fold (act s p extra) t acts) a
    (core_of setup routing (with_session l p new)) c (session_done setup routing l p new ready) d)

-- the sessions after one of them reacted
pub reacted_so : (l : Links) (p : ℕ) (what : Stimulus) (own new : Owned) (now : ℕ) → HasPeer l p
    → own ≡ slice_index_or (l.sessions).items (p - 1) own → now ≡ l.clock
    → new ≡ record own { session = (row own.own own.session now what).session }
    → slice_set (l.sessions).items (p - 1) new ≡ reacted l p what
reacted_so l p what own new now peer is clock after =
    ap (λ (x : Owned). slice_set (l.sessions).items (p - 1) x)
    (after ∙ ap (λ (n : ℕ). record own { session = (row own.own own.session n what).session }) clock)
    ∙ ap
    (λ (x : Owned). slice_set (l.sessions).items (p - 1)
    (record x { session = (row x.own x.session l.clock what).session }))
    (own_read l p own peer is)

-- the acts of one of them that reacted
pub acts_so : (l : Links) (p : ℕ) (what : Stimulus) (own : Owned) (now : ℕ) (acts : List Act) → HasPeer l p
    → own ≡ slice_index_or (l.sessions).items (p - 1) own → now ≡ l.clock
    → acts ≡ (row own.own own.session now what).acts → acts ≡ (reaction_of l p what).acts
acts_so l p what own now acts peer is clock does =
    does ∙ ap (λ (n : ℕ). (row own.own own.session n what).acts) clock
    ∙ ap (λ (x : Owned). (row x.own x.session l.clock what).acts) (own_read l p own peer is)

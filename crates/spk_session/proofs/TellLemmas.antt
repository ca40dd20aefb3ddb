-- The steps of telling a peer.
use Rattle.std.proofs.Common.{◌≡◌, ◌≤◌, ◌<◌, ◌-◌, ◌+◌, ◌*◌, refl, sym, ◌∙◌, ap, subst, ℕ, zero, suc}
use Rattle.std.proofs.Common.{Bool, true, false, List, [], ◌∷◌, ◌++◌, length, take, drop, Option, Some, None, arith}
use Rattle.std.specs.Prelude.{nat_lt, ◌==◌, if◌then◌else◌}
use Rattle.std.specs.List.{slice_set, slice_index_or}
use Rattle.std.specs.Vec.{with_item}
use Rattle.std.specs.Result.{OnOk, IfOk}
use Rattle.std.specs.declared.result.Result.{Result}
use Rattle.std.specs.declared.result.Result.TheVariants.{Ok, Err}
use Rattle.std.proofs.lemmas.List.{set-get_or, drop_all, take_all, append-nil, length-set, get_or-set_same}
use Rattle.std.proofs.lemmas.List.{get_or_default}
use Rattle.std.proofs.lemmas.Bool.{lt-ltb, eqb-true}
use Rattle.xb_values.specs.Buffers.{Buffer}
use Rattle.xb_domain.specs.declared.output.Packing.{Packing}
use Rattle.xb_domain.specs.Outputs.{Output}
use Rattle.bgp_write.specs.Pending.{Formed, form, pending}
use Rattle.spk_model.specs.declared.host.Setup.{Setup}
use Rattle.spk_model.specs.Choosing.{Trace}
use Rattle.spk_model.specs.Sources.{is_up}
use Rattle.spk_model.specs.Routing.{Routing, tables_of, with_tables}
use Rattle.spk_model.specs.Turning.{Turn, Speaker, emit, emit_turns, form_next, formed_rest, is_spent, less, put}
use Rattle.spk_model.specs.Turning.{put_rest}
use Rattle.spk_model.specs.Turning.{rest_of, rest_or_form, tables_at, unless_spent, within}
use Rattle.spk_session.specs.declared.links.Links.{Links}
use Rattle.spk_session.specs.Acting.{rest_in}
use Rattle.spk_session.specs.Meaning.{Core, core_of, Does, HasPeer, IsEven, IsReady, speaker_of, turn_of}
use Rattle.spk_session.specs.Routed.{waiting, Tells}
use Rattle.spk_session.specs.Telling.{Comes, Ends, HasLeft, HasRest, IsFormed, RestBy}
use Rattle.spk_session.specs.Telling.{enough, no_rest_steps, rest_steps, work, work_if}
use Rattle.spk_session.proofs.Following.{does_nothing}

-- nothing more leaves once the limit is spent
pub emit_turns-spent : (rule : Packing) (n : ℕ) (t : Turn) (p : ℕ) (limit : Option ℕ)
    → is_spent limit ≡ true → emit_turns rule n t p limit ≡ t
unfolding emit_turns
emit_turns-spent rule zero t p limit e = refl
emit_turns-spent rule (suc n) t p limit e =
    ap (λ (b : Bool). unless_spent b
    (λ u. rest_or_form rule (λ v l. emit_turns rule n v p l) u p limit (nat_lt 0 (length (rest_of u p)))) t) e

-- a step, by whether there is a rest
pub emit_turns-suc : (rule : Packing) (n : ℕ) (t : Turn) (p : ℕ) (limit : Option ℕ) (some : Bool)
    → is_spent limit ≡ false → nat_lt 0 (length (rest_of t p)) ≡ some
    → emit_turns rule (suc n) t p limit ≡ rest_or_form rule (λ v l. emit_turns rule n v p l) t p limit some
unfolding emit_turns
emit_turns-suc rule n t p limit some e s =
    ap (λ (b : Bool). unless_spent b
    (λ u. rest_or_form rule (λ v l. emit_turns rule n v p l) u p limit (nat_lt 0 (length (rest_of u p)))) t) e
    ∙ ap (rest_or_form rule (λ v l. emit_turns rule n v p l) t p limit) s

-- a core whose peer has another rest, and other routes
abbrev pub with_rest : Core → ℕ → Routing → List ℕ → Core
with_rest c p routing rest =
    record c { routing = routing; links = record c.links { rests = with_item (c.links).rests (p - 1) rest } }

-- it is ready as well
pub ready-with_rest : (c : Core) (p : ℕ) (routing : Routing) (rest : List ℕ) → IsReady c
    → IsReady (with_rest c p routing rest)
ready-with_rest c p routing rest ready = record {
  even = record {
    few = ready.even.few;
    rests = length-set ((c.links).rests).items (p - 1) rest ∙ ready.even.rests;
    flags = ready.even.flags;
    room = ready.even.room;
  };
  count = ready.count;
}

-- the rest that it has
rest_in-with_rest : (c : Core) (p : ℕ) (routing : Routing) (rest : List ℕ) → IsReady c → HasPeer c.links p
    → rest_in (with_rest c p routing rest).links p ≡ rest
rest_in-with_rest c p routing rest ready peer =
    get_or-set_same ((c.links).rests).items (p - 1) rest [] (omega (arith, ready.even.rests, peer.0, peer.1))

-- the rest that was there is put back
speaker_of-with_rest : (waits : List (List ℕ)) (c : Core) (p : ℕ) (rest : List ℕ) → rest ≡ rest_in c.links p
    → speaker_of waits c ≡ speaker_of waits (with_rest c p c.routing rest)
speaker_of-with_rest waits c p rest is =
    ap (λ (items : List (List ℕ)). record (speaker_of waits c) { rests = items })
    (sym (ap (slice_set ((c.links).rests).items (p - 1)) is ∙ set-get_or ((c.links).rests).items (p - 1) []))

-- telling ends where no number of steps does anything, and the rest that was there is put back
ends_still : (rule : Packing) (p : ℕ) (limit : Option ℕ) (c : Core) (rest : List ℕ) → IsReady c
    → rest ≡ rest_in c.links p
    → ((waits : List (List ℕ)) (trace : Trace) (n : ℕ)
    → emit_turns rule n (turn_of waits trace c) p limit ≡ turn_of waits trace c)
    → Ends rule p limit c (with_rest c p c.routing rest)
ends_still rule p limit c rest ready is still = record {
  ready = ready-with_rest c p c.routing rest ready;
  setup = refl;
  speaker = λ waits trace n _. ap (λ (t : Turn). t.speaker) (still waits trace n) ∙ speaker_of-with_rest waits c p rest is;
  outputs = λ waits trace n _. ap (λ (t : Turn). t.outputs) (still waits trace n);
}

-- the limit is spent
pub ends_spent : (rule : Packing) (p : ℕ) (limit : Option ℕ) (c : Core) → IsReady c → is_spent limit ≡ true
    → Ends rule p limit c c
ends_spent rule p limit c ready e = record {
  ready = ready;
  setup = refl;
  speaker = λ waits trace n _.
      ap (λ (t : Turn). t.speaker) (emit_turns-spent rule n (turn_of waits trace c) p limit e);
  outputs = λ waits trace n _.
      ap (λ (t : Turn). t.outputs) (emit_turns-spent rule n (turn_of waits trace c) p limit e);
}

-- there is no rest, and no message to form
pub ends_told : (rule : Packing) (p : ℕ) (limit : Option ℕ) (c : Core) (rest : List ℕ) → IsReady c
    → is_spent limit ≡ false → rest ≡ rest_in c.links p → rest_in c.links p ≡ []
    → form rule (tables_of c.routing p).adv (tables_of c.routing p).told ≡ None
    → Ends rule p limit c (with_rest c p c.routing rest)
unfolding emit_turns
ends_told rule p limit c rest ready unspent is empty none = ends_still rule p limit c rest ready is still
  where
    stays : (waits : List (List ℕ)) (trace : Trace) (n : ℕ)
        → rest_or_form rule (λ v l. emit_turns rule n v p l) (turn_of waits trace c) p limit false
        ≡ turn_of waits trace c
    stays waits trace n =
        ap (form_next (λ u. emit_turns rule n u p limit) (turn_of waits trace c) p) none

    still : (waits : List (List ℕ)) (trace : Trace) (n : ℕ)
        → emit_turns rule n (turn_of waits trace c) p limit ≡ turn_of waits trace c
    still waits trace zero = refl
    still waits trace (suc n) =
        emit_turns-suc rule n (turn_of waits trace c) p limit false unspent
        (ap (λ (r : List ℕ). nat_lt 0 (length r)) empty)
        ∙ stays waits trace n

-- ---- a rest is there to leave

-- one that was left
pub has_rest-left : (rule : Packing) (p : ℕ) (limit : Option ℕ) (c : Core) → IsReady c → is_spent limit ≡ false
    → nat_lt 0 (length (rest_in c.links p)) ≡ true → HasRest rule p limit c c
has_rest-left rule p limit c ready unspent some = record {
  ready = ready;
  setup = refl;
  sessions = refl;
  unspent = unspent;
  less = few (rest_in c.links p) some;
  comes = λ last e. e;
}
  where
    few : (r : List ℕ) → nat_lt 0 (length r) ≡ true
        → 2 * length (waiting c.routing p) + rest_steps r + no_rest_steps r
        ≤ 2 * length (waiting c.routing p) + rest_steps r
    few [] e = absurd (let f : false ≡ true = e in cc f)
    few (x ∷ r) e = omega arith

-- the next message was formed
pub has_rest-formed : (rule : Packing) (p : ℕ) (limit : Option ℕ) (c : Core) (f : Formed) → IsReady c
    → HasPeer c.links p → is_spent limit ≡ false → rest_in c.links p ≡ []
    → form rule (tables_of c.routing p).adv (tables_of c.routing p).told ≡ Some f
    → let routing = with_tables c.routing p (record (tables_of c.routing p) { told = f.told }) in
    length (waiting routing p) < length (waiting c.routing p)
    → HasRest rule p limit c (with_rest c p routing f.message)
has_rest-formed rule p limit c f ready peer unspent empty is less =
    record {
      ready = ready-with_rest c p routing f.message ready;
      setup = refl;
      sessions = refl;
      unspent = unspent;
      less = subst (λ (r : List ℕ). 2 * length (waiting routing p) + rest_steps r + no_rest_steps r ≤ enough p c)
          (sym rest) (subst (λ (r : List ℕ). 2 * length (waiting routing p) + rest_steps f.message
          + no_rest_steps f.message ≤ 2 * length (waiting c.routing p) + rest_steps r) (sym empty) (few f.message));
      comes = comes;
    }
  where
    routing : Routing
    routing = with_tables c.routing p (record (tables_of c.routing p) { told = f.told })

    next : Core
    next = with_rest c p routing f.message

    rest : rest_in next.links p ≡ f.message
    rest = rest_in-with_rest c p routing f.message ready peer

    few : (r : List ℕ) → 2 * length (waiting routing p) + rest_steps r + no_rest_steps r
        ≤ 2 * length (waiting c.routing p) + 0
    few [] = omega (arith, less)
    few (x ∷ r) = omega (arith, less)

    most : (r : List ℕ) → rest_steps r ≤ 1
    most [] = omega arith
    most (x ∷ r) = omega arith

    step : (waits : List (List ℕ)) (trace : Trace) (n : ℕ)
        → emit_turns rule (suc n) (turn_of waits trace c) p limit
        ≡ emit_turns rule n (turn_of waits trace next) p limit
    step waits trace n =
        emit_turns-suc rule n (turn_of waits trace c) p limit false unspent
        (ap (λ (r : List ℕ). nat_lt 0 (length r)) empty)
        ∙ ap (form_next (λ u. emit_turns rule n u p limit) (turn_of waits trace c) p) is

    enough_left : (n : ℕ) → enough p c ≤ suc n → enough p next ≤ n
    enough_left n h =
        let a : 2 * length (waiting c.routing p) + rest_steps [] ≤ suc n =
        subst (λ (r : List ℕ). 2 * length (waiting c.routing p) + rest_steps r ≤ suc n) empty h in
        let b : rest_steps (rest_in next.links p) ≤ 1 = most (rest_in next.links p) in
        omega (arith, a, b, less)

    speaker_from : (last : Core) → Ends rule p limit next last
        → (waits : List (List ℕ)) (trace : Trace) (n : ℕ) → enough p c ≤ n
        → (emit_turns rule n (turn_of waits trace c) p limit).speaker ≡ speaker_of waits last
    speaker_from last e waits trace zero h = absurd (omega (arith, h, less))
    speaker_from last e waits trace (suc n) h =
        ap (λ (t : Turn). t.speaker) (step waits trace n) ∙ e.speaker waits trace n (enough_left n h)

    outputs_from : (last : Core) → Ends rule p limit next last
        → (waits : List (List ℕ)) (trace : Trace) (n : ℕ) → enough p c ≤ n
        → (emit_turns rule n (turn_of waits trace c) p limit).outputs ≡ (last.links).outputs
    outputs_from last e waits trace zero h = absurd (omega (arith, h, less))
    outputs_from last e waits trace (suc n) h =
        ap (λ (t : Turn). t.outputs) (step waits trace n) ∙ e.outputs waits trace n (enough_left n h)

    comes : (last : Core) → Ends rule p limit next last → Ends rule p limit c last
    comes last e =
        record { ready = e.ready; setup = e.setup; speaker = speaker_from last e; outputs = outputs_from last e }

-- ---- a part of the rest leaves

-- a core after a part of the rest left
abbrev pub with_out : Core → ℕ → List ℕ → Core
with_out c p out =
    let rest = drop (length out) (rest_in c.links p) in
    record c {
      links = record c.links {
        rests = with_item (c.links).rests (p - 1) rest;
        outputs = (c.links).outputs ++ put p out;
      };
    }

-- all of the rest left if something of the limit is left
pub drop-within : (limit : Option ℕ) (rest : List ℕ) → is_spent (less limit (length rest)) ≡ false
    → drop (length (within limit rest)) rest ≡ []
drop-within None rest e = drop_all (length rest) rest (omega arith)
drop-within (Some k) rest e =
    let more : length rest ≤ k = left_over (k - length rest) e refl in
    ap (λ (r : List ℕ). drop (length r) rest) (take_all k rest more) ∙ drop_all (length rest) rest (omega arith)
  where
    left_over : (n : ℕ) → (n == 0) ≡ false → k - length rest ≡ n → length rest ≤ k
    left_over zero h is = absurd (let f : true ≡ false = h in cc f)
    left_over (suc n) h is = omega (arith, is)

less-zero : (limit : Option ℕ) → less limit 0 ≡ limit
less-zero None = refl
less-zero (Some k) = let same : k - 0 ≡ k = omega arith in ap (λ (n : ℕ). Some n) same

within-nil : (limit : Option ℕ) → within limit [] ≡ []
within-nil None = refl
within-nil (Some zero) = refl
within-nil (Some (suc k)) = refl

-- nothing of no rest leaves
rest-nil : (limit : Option ℕ) (rest : List ℕ) → rest ≡ [] → drop (length (within limit rest)) rest ≡ []
rest-nil limit rest is =
    ap (λ (r : List ℕ). drop (length (within limit r)) r) is
    ∙ ap (λ (r : List ℕ). drop (length r) []) (within-nil limit)

turn_of-nothing_left : (waits : List (List ℕ)) (trace : Trace) (limit : Option ℕ) (c : Core) (p : ℕ)
    → rest_in c.links p ≡ []
    → turn_of waits trace c ≡ turn_of waits trace (with_out c p (within limit (rest_in c.links p)))
turn_of-nothing_left waits trace limit c p is =
    ap (λ (items : List (List ℕ)).
    record (turn_of waits trace c) { speaker = record (speaker_of waits c) { rests = items } })
    (sym (ap (slice_set ((c.links).rests).items (p - 1)) (rest-nil limit (rest_in c.links p) is ∙ sym is)
    ∙ set-get_or ((c.links).rests).items (p - 1) []))
    ∙ ap (λ (os : List Output).
    record (turn_of waits trace (with_out c p (within limit (rest_in c.links p)))) { outputs = os })
    (sym (ap (λ (r : List ℕ). (c.links).outputs ++ put p r) (ap (within limit) is ∙ within-nil limit)
    ∙ append-nil (c.links).outputs))

-- a part of the rest left
pub has_left : (rule : Packing) (p : ℕ) (limit : Option ℕ) (c : Core) → IsReady c → HasPeer c.links p
    → is_spent limit ≡ false
    → HasLeft rule p limit c (less limit (length (rest_in c.links p))) (with_out c p (within limit (rest_in c.links p)))
has_left rule p limit c ready peer unspent =
    record {
      ready = record {
        even = record {
          few = ready.even.few;
          rests = length-set ((c.links).rests).items (p - 1) rest' ∙ ready.even.rests;
          flags = ready.even.flags;
          room = ready.even.room;
        };
        count = ready.count;
      };
      setup = refl;
      sessions = refl;
      less = λ unspent. fewer unspent;
      comes = comes;
    }
  where
    rest : List ℕ
    rest = rest_in c.links p

    limit' : Option ℕ
    limit' = less limit (length rest)

    rest' : List ℕ
    rest' = drop (length (within limit rest)) rest

    next : Core
    next = with_out c p (within limit rest)

    now : rest_in next.links p ≡ rest'
    now = get_or-set_same ((c.links).rests).items (p - 1) rest' [] (omega (arith, ready.even.rests, peer.0, peer.1))

    some : (r : List ℕ) → 0 < rest_steps r + no_rest_steps r
    some [] = omega arith
    some (x ∷ r) = omega arith

    fewer : is_spent limit' ≡ false → enough p next < enough p c + no_rest_steps rest
    fewer unspent =
        let gone : rest_steps (rest_in next.links p) ≡ 0 = ap rest_steps (now ∙ drop-within limit rest unspent) in
        omega (arith, gone, some rest)

    step : (waits : List (List ℕ)) (trace : Trace) (n : ℕ) → nat_lt 0 (length rest) ≡ true
        → emit_turns rule (suc n) (turn_of waits trace c) p limit
        ≡ emit_turns rule n (turn_of waits trace next) p limit'
    step waits trace n there = emit_turns-suc rule n (turn_of waits trace c) p limit true unspent there

    one_step : (r : List ℕ) → nat_lt 0 (length r) ≡ true → rest_steps r ≡ 1
    one_step [] e = absurd (let f : false ≡ true = e in cc f)
    one_step (x ∷ r) e = refl

    fits : (n : ℕ) → is_spent limit' ≡ false → nat_lt 0 (length rest) ≡ true → enough p c ≤ suc n → enough p next ≤ n
    fits n unspent' there h =
        let gone : rest_steps (rest_in next.links p) ≡ 0 = ap rest_steps (now ∙ drop-within limit rest unspent') in
        let one : rest_steps rest ≡ 1 = one_step rest there in
        omega (arith, gone, one, h)

    speaker_onward : (last : Core) → Ends rule p limit' next last → nat_lt 0 (length rest) ≡ true
        → (waits : List (List ℕ)) (trace : Trace) (n : ℕ) (spent : Bool) → is_spent limit' ≡ spent → enough p c ≤ suc n
        → (emit_turns rule n (turn_of waits trace next) p limit').speaker ≡ speaker_of waits last
    speaker_onward last e there waits trace n true is h =
        ap (λ (t : Turn). t.speaker) (emit_turns-spent rule n (turn_of waits trace next) p limit' is
        ∙ sym (emit_turns-spent rule (enough p next) (turn_of waits trace next) p limit' is))
        ∙ e.speaker waits trace (enough p next) (omega arith)
    speaker_onward last e there waits trace n false is h = e.speaker waits trace n (fits n is there h)

    outputs_onward : (last : Core) → Ends rule p limit' next last → nat_lt 0 (length rest) ≡ true
        → (waits : List (List ℕ)) (trace : Trace) (n : ℕ) (spent : Bool) → is_spent limit' ≡ spent → enough p c ≤ suc n
        → (emit_turns rule n (turn_of waits trace next) p limit').outputs ≡ (last.links).outputs
    outputs_onward last e there waits trace n true is h =
        ap (λ (t : Turn). t.outputs) (emit_turns-spent rule n (turn_of waits trace next) p limit' is
        ∙ sym (emit_turns-spent rule (enough p next) (turn_of waits trace next) p limit' is))
        ∙ e.outputs waits trace (enough p next) (omega arith)
    outputs_onward last e there waits trace n false is h = e.outputs waits trace n (fits n is there h)

    has_step : (n : ℕ) → nat_lt 0 (length rest) ≡ true → enough p c ≤ n → 1 ≤ n
    has_step n there h = let one : rest_steps rest ≡ 1 = one_step rest there in omega (arith, one, h)

    speaker_from : (last : Core) → Ends rule p limit' next last → nat_lt 0 (length rest) ≡ true
        → (waits : List (List ℕ)) (trace : Trace) (n : ℕ) → enough p c ≤ n
        → (emit_turns rule n (turn_of waits trace c) p limit).speaker ≡ speaker_of waits last
    speaker_from last e there waits trace zero h = absurd (let f : 1 ≤ 0 = has_step zero there h in omega (arith, f))
    speaker_from last e there waits trace (suc n) h =
        ap (λ (t : Turn). t.speaker) (step waits trace n there)
        ∙ speaker_onward last e there waits trace n (is_spent limit') refl h

    outputs_from : (last : Core) → Ends rule p limit' next last → nat_lt 0 (length rest) ≡ true
        → (waits : List (List ℕ)) (trace : Trace) (n : ℕ) → enough p c ≤ n
        → (emit_turns rule n (turn_of waits trace c) p limit).outputs ≡ (last.links).outputs
    outputs_from last e there waits trace zero h = absurd (let f : 1 ≤ 0 = has_step zero there h in omega (arith, f))
    outputs_from last e there waits trace (suc n) h =
        ap (λ (t : Turn). t.outputs) (step waits trace n there)
        ∙ outputs_onward last e there waits trace n (is_spent limit') refl h

    by_rest : (last : Core) → Ends rule p limit' next last → (r : List ℕ) → rest ≡ r → Ends rule p limit c last
    by_rest last e [] is =
        let f : Ends rule p limit next last =
        subst (λ (l : Option ℕ). Ends rule p l next last)
        (ap (λ (r : List ℕ). less limit (length r)) is ∙ less-zero limit) e in
        let none : rest_steps (rest_in next.links p) ≡ 0 = ap rest_steps (now ∙ rest-nil limit rest is) in
        record {
          ready = f.ready;
          setup = f.setup;
          speaker = λ waits trace n h.
              ap (λ (t : Turn). (emit_turns rule n t p limit).speaker) (turn_of-nothing_left waits trace limit c p is)
              ∙ f.speaker waits trace n (omega (arith, none, h));
          outputs = λ waits trace n h.
              ap (λ (t : Turn). (emit_turns rule n t p limit).outputs) (turn_of-nothing_left waits trace limit c p is)
              ∙ f.outputs waits trace n (omega (arith, none, h));
        }
    by_rest last e (x ∷ r) is =
        let one : nat_lt 0 (length (x ∷ r)) ≡ true = lt-ltb 0 (length (x ∷ r)) (omega arith) in
        let there : nat_lt 0 (length rest) ≡ true = ap (λ (q : List ℕ). nat_lt 0 (length q)) is ∙ one in
        record {
          ready = e.ready;
          setup = e.setup;
          speaker = speaker_from last e there;
          outputs = outputs_from last e there;
        }

    comes : Comes rule p limit c limit' next
    comes last e = by_rest last e rest refl

-- ---- how telling begins and ends

-- telling by enough steps is telling
pub told : (rule : Packing) (p : ℕ) (limit : Option ℕ) (a b : Core) → is_up ((a.links).sessions).items p ≡ true
    → Ends rule p limit a b → Does (λ setup t. emit rule t p limit) a b
unfolding emit
told rule p limit a b up e =
    let n : ℕ = 2 + 2 * length (pending (tables_of a.routing p).adv (tables_of a.routing p).told) in
    let fits : enough p a ≤ n = most (rest_in a.links p) in
    record {
      ready = e.ready;
      setup = e.setup;
      speaker = λ waits trace. ap (λ (x : Bool). (if_up x (emit_turns rule n (turn_of waits trace a) p limit)
          (turn_of waits trace a)).speaker) up ∙ e.speaker waits trace n fits;
      outputs = λ waits trace. ap (λ (x : Bool). (if_up x (emit_turns rule n (turn_of waits trace a) p limit)
          (turn_of waits trace a)).outputs) up ∙ e.outputs waits trace n fits;
    }
  where
    if_up : Bool → Turn → Turn → Turn
    if_up x t u = if x then t else u

    most : (r : List ℕ) → 2 * length (waiting a.routing p) + rest_steps r ≤ 2 + 2 * length (waiting a.routing p)
    most [] = omega arith
    most (x ∷ r) = omega arith

-- a peer whose session is not Established is told nothing
pub not_told : (rule : Packing) (p : ℕ) (limit : Option ℕ) (a : Core) → IsReady a
    → is_up ((a.links).sessions).items p ≡ false → Does (λ setup t. emit rule t p limit) a a
unfolding emit
not_told rule p limit a ready down =
    let n : ℕ = 2 + 2 * length (pending (tables_of a.routing p).adv (tables_of a.routing p).told) in
    record {
      ready = ready;
      setup = refl;
      speaker = λ waits trace. ap (λ (x : Bool). (if_up x (emit_turns rule n (turn_of waits trace a) p limit)
          (turn_of waits trace a)).speaker) down;
      outputs = λ waits trace. ap (λ (x : Bool). (if_up x (emit_turns rule n (turn_of waits trace a) p limit)
          (turn_of waits trace a)).outputs) down;
    }
  where
    if_up : Bool → Turn → Turn → Turn
    if_up x t u = if x then t else u

-- a message that was written is a rest
pub tells-formed : (o : Option Formed) (p : ℕ) (old new : Routing) (out written : Buffer) (result : Bool)
    (rest : List ℕ) → out.octets ≡ [] → rest ≡ [] → Tells o p old new out written result
    → IsFormed o p old new rest written.octets result
tells-formed None p old new out written result rest empty none t =
    (t.0, t.1, ap (λ (b : Buffer). b.octets) t.2 ∙ empty ∙ sym none)
tells-formed (Some f) p old new out written result rest empty none t =
    (t.0, t.1, ap (λ (b : Buffer). b.octets) t.2)

-- what came of forming a message
pub formed_rests : (rule : Packing) (p : ℕ) (limit : Option ℕ) (setup setup' : Setup) (links : Links)
    (old new : Routing) (rest rest' : List ℕ) (result : Bool)
    → IsReady (core_of setup old links) → HasPeer links p → is_spent limit ≡ false
    → rest ≡ slice_index_or (links.rests).items (p - 1) rest → rest ≡ [] → setup' ≡ setup
    → (o : Option Formed) → form rule (tables_of old p).adv (tables_of old p).told ≡ o
    → IsFormed o p old new rest rest' result
    → (result ≡ true → length (waiting new p) < length (waiting old p))
    → RestBy result rule p limit (core_of setup old links)
    (core_of setup' new (record links { rests = with_item links.rests (p - 1) rest' }))
formed_rests rule p limit setup setup' links old new rest rest' result ready peer unspent is none same o form_is formed less =
    by o form_is formed
  where
    here : rest ≡ rest_in links p
    here = is ∙ get_or_default (links.rests).items (p - 1) rest [] (omega (arith, ready.even.rests, peer.0, peer.1))

    by : (q : Option Formed) → form rule (tables_of old p).adv (tables_of old p).told ≡ q
        → IsFormed q p old new rest rest' result
        → RestBy result rule p limit (core_of setup old links)
        (core_of setup' new (record links { rests = with_item links.rests (p - 1) rest' }))
    by None e f =
        subst (λ (b : Bool). RestBy b rule p limit (core_of setup old links)
        (core_of setup' new (record links { rests = with_item links.rests (p - 1) rest' }))) (sym f.0)
        (subst (λ (x : Core). Ends rule p limit (core_of setup old links) x)
        (sym (ap (λ (s : Setup). core_of s new (record links { rests = with_item links.rests (p - 1) rest' })) same
        ∙ ap (λ (r : Routing). core_of setup r (record links { rests = with_item links.rests (p - 1) rest' })) f.1
        ∙ refl))
        (ends_told rule p limit (core_of setup old links) rest' ready unspent (f.2 ∙ here) (sym here ∙ none) e))
    by (Some m) e f =
        subst (λ (b : Bool). RestBy b rule p limit (core_of setup old links)
        (core_of setup' new (record links { rests = with_item links.rests (p - 1) rest' }))) (sym f.0)
        (subst (λ (x : Core). HasRest rule p limit (core_of setup old links) x)
        (sym (ap (λ (s : Setup). core_of s new (record links { rests = with_item links.rests (p - 1) rest' })) same
        ∙ ap (λ (r : Routing). core_of setup r (record links { rests = with_item links.rests (p - 1) rest' })) f.1
        ∙ ap (λ (r : List ℕ). with_rest (core_of setup old links) p
        (with_tables old p (record (tables_of old p) { told = m.told })) r) f.2))
        (has_rest-formed rule p limit (core_of setup old links) m ready peer unspent (sym here ∙ none) e
        (subst (λ (r : Routing). length (waiting r p) < length (waiting old p)) f.1 (less f.0))))

-- what left of the rest of a peer
pub front_left : (rule : Packing) (p : ℕ) (limit left : Option ℕ) (setup : Setup) (links : Links) (routing : Routing)
    (rest rest' : List ℕ) (outputs : List Output)
    → IsReady (core_of setup routing links) → HasPeer links p → is_spent limit ≡ false
    → rest ≡ slice_index_or (links.rests).items (p - 1) rest
    → rest' ≡ drop (length (within limit rest)) rest → outputs ≡ links.outputs ++ put p (within limit rest)
    → left ≡ less limit (length rest)
    → HasLeft rule p limit (core_of setup routing links) left
    (core_of setup routing (record links { rests = with_item links.rests (p - 1) rest'; outputs = outputs }))
front_left rule p limit left setup links routing rest rest' outputs ready peer unspent is cut gone less_is =
    let here : rest ≡ rest_in links p =
    is ∙ get_or_default (links.rests).items (p - 1) rest [] (omega (arith, ready.even.rests, peer.0, peer.1)) in
    let c : Core = core_of setup routing links in
    subst (λ (l : Option ℕ). HasLeft rule p limit c l
    (core_of setup routing (record links { rests = with_item links.rests (p - 1) rest'; outputs = outputs })))
    (sym (less_is ∙ ap (λ (r : List ℕ). less limit (length r)) here))
    (subst (λ (x : Core). HasLeft rule p limit c (less limit (length (rest_in links p))) x)
    (sym (ap (λ (r : List ℕ). core_of setup routing
    (record links { rests = with_item links.rests (p - 1) r; outputs = outputs }))
    (cut ∙ ap (λ (r : List ℕ). drop (length (within limit r)) r) here)
    ∙ ap (λ (os : List Output). core_of setup routing (record links {
      rests = with_item links.rests (p - 1) (drop (length (within limit (rest_in links p))) (rest_in links p));
      outputs = os;
    })) (gone ∙ ap (λ (r : List ℕ). links.outputs ++ put p (within limit r)) here)))
    (has_left rule p limit c ready peer unspent))

-- a list without items
pub no_items : (xs : List ℕ) → (length xs == 0) ≡ true → xs ≡ []
no_items [] e = refl
no_items (x ∷ xs) e =
    absurd (let f : length (x ∷ xs) ≡ 0 = eqb-true (length (x ∷ xs)) 0 e in omega (arith, f))

-- the message's room stays
pub tells-capacity : (o : Option Formed) (p : ℕ) (old new : Routing) (out written : Buffer) (result : Bool)
    → Tells o p old new out written result → written.capacity ≡ out.capacity
tells-capacity None p old new out written result t = ap (λ (b : Buffer). b.capacity) t.2
tells-capacity (Some f) p old new out written result t = ap (λ (b : Buffer). b.capacity) t.2

-- what is known of a success, together
pub if_ok_three : {T E A B : Type 0} {C D : T → Type 0} (r : Result T E) → ((x : T) → A → B → C x → D x)
    → OnOk r A → OnOk r B → IfOk r C → IfOk r D
if_ok_three (Ok x) f a b c = f x a b c
if_ok_three (Err e) f a b c = tt

-- each turn leaves less to do
pub work-smaller : (rule : Packing) (p : ℕ) (limit limit' : Option ℕ) (a b c : Core) → HasRest rule p limit a b
    → HasLeft rule p limit b limit' c → work p limit' c < work p limit a
work-smaller rule p limit limit' a b c rest left =
    subst (λ (s : Bool). work p limit' c < work_if s (enough p a)) (sym rest.unspent) (by (is_spent limit') refl)
  where
    by : (s : Bool) → is_spent limit' ≡ s → work_if s (enough p c) < work_if false (enough p a)
    by true e = omega arith
    by false e =
        let f : enough p c < enough p b + no_rest_steps (rest_in b.links p) = left.less e in
        let g : enough p b + no_rest_steps (rest_in b.links p) ≤ enough p a = rest.less in
        omega (arith, f, g)

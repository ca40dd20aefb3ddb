-- A host before its first event.
use Rattle.std.proofs.Common.{◌≡◌, ◌≤◌, refl, sym, ◌∙◌, ap, subst, ℕ, zero, suc, Bool, false, List, [], ◌∷◌, length}
use Rattle.std.proofs.Common.{map, arith, replicate}
use Rattle.std.proofs.lemmas.List.{length-replicate}
use Rattle.std.proofs.lemmas.List.Elements.{All-replicate}
use Rattle.std.proofs.lemmas.Simd.{splat_is_map}
use Rattle.bgp_frame.specs.Waiting.{Waiting}
use Rattle.bgp_fsm.specs.Sessions.{Owned}
use Rattle.xb_wire.specs.declared.numbers.TheConstants.{MAX_MESSAGE}
use Rattle.xbgp_config.specs.declared.limits.TheConstants.{MAX_PEERS}
use Rattle.spk_model.specs.declared.host.Setup.{Setup}
use Rattle.spk_model.specs.Routing.{Routing}
use Rattle.spk_model.specs.Turning.{Speaker, start_of, start_routing}
use Rattle.spk_session.specs.declared.links.Links.{Links}
use Rattle.spk_session.specs.Meaning.{core_of, kept}
use Rattle.spk_session.specs.Taking.{IsDrained}
use Rattle.spk_session.specs.Hosting.{waits_of, shown, AreDrained, IsSound}
use Rattle.spk_session.specs.Starting.{own_session, IsStart}
use Rattle.spk_session.proofs.Dropping.{kept-calm, none_left}

-- an empty buffer
abbrev pub no_octets : Waiting
no_octets = record { waits = []; body = [] }

waits_made : (n : ℕ) → waits_of (replicate n no_octets) ≡ replicate n []
waits_made zero = refl
waits_made (suc n) = ap (λ (l : List (List ℕ)). [] ∷ l) (waits_made n)

pub start_sound : (setup : Setup) (routing : Routing) (hold count : ℕ) (l : Links) (frames : List Waiting)
    → count ≡ length (setup.config).peers → count ≤ MAX_PEERS → IsStart hold count l
    → frames ≡ replicate count no_octets → IsSound frames (core_of setup routing l)
start_sound setup routing hold count l frames all few s made =
    let sessions : length (l.sessions).items ≡ count =
    ap length s.sessions ∙ length-replicate count (own_session hold) in
    let rests : length (l.rests).items ≡ count = ap length s.rests ∙ length-replicate count [] in
    let flags : length (l.dropped).items ≡ count = ap length s.flags ∙ length-replicate count false in
    let waits : waits_of frames ≡ replicate count [] = ap waits_of made ∙ waits_made count in
    record {
      ready = record {
        even = record {
          few = subst (λ (n : ℕ). n ≤ MAX_PEERS) (sym sessions) few;
          rests = rests ∙ sym sessions;
          flags = flags ∙ sym sessions;
          room = let most : MAX_MESSAGE ≤ (l.message).capacity = omega (arith, s.room) in most;
        };
        count = sessions ∙ all;
      };
      calm = s.flags ∙ ap (λ (n : ℕ). replicate n false) (sym sessions);
      silent = s.silent;
      count = ap length made ∙ length-replicate count no_octets ∙ sym sessions;
      drained = subst AreDrained (sym waits) (All-replicate IsDrained count [] none_left);
    }

-- a speaker by its lists
abbrev speaker_with : Setup → ℕ → List Owned → List (List ℕ) → List (List ℕ) → Speaker
speaker_with setup clock sessions rests waits = record {
  clock = clock;
  sessions = sessions;
  rests = rests;
  waits = waits;
  routing = start_routing setup;
}

pub start_shown : (setup : Setup) (routing : Routing) (hold count : ℕ) (l : Links) (frames : List Waiting)
    → count ≡ length (setup.config).peers → hold ≡ (setup.config).hold → IsStart hold count l
    → frames ≡ replicate count no_octets → routing ≡ start_routing setup
    → shown frames (core_of setup routing l) ≡ start_of setup
start_shown setup routing hold count l frames all own s made routes =
    let peers = (setup.config).peers in
    let sessions : (l.sessions).items ≡ map (λ _. own_session (setup.config).hold) peers =
    s.sessions ∙ ap (λ (h : ℕ). replicate count (own_session h)) own
    ∙ splat_is_map peers count (own_session (setup.config).hold) (sym all) in
    let rests : (l.rests).items ≡ map (λ _. []) peers = s.rests ∙ splat_is_map peers count [] (sym all) in
    let waits : kept (l.dropped).items (waits_of frames) ≡ map (λ _. []) peers =
    ap (λ (ds : List Bool). kept ds (waits_of frames)) s.flags ∙ kept-calm count (waits_of frames)
    ∙ ap waits_of made ∙ waits_made count ∙ splat_is_map peers count [] (sym all) in
    ap (λ (r : Routing). shown frames (core_of setup r l)) routes
    ∙ ap (λ (n : ℕ). speaker_with setup n (l.sessions).items (l.rests).items (kept (l.dropped).items (waits_of frames)))
    s.clock
    ∙ ap (λ (xs : List Owned). speaker_with setup 0 xs (l.rests).items (kept (l.dropped).items (waits_of frames)))
    sessions
    ∙ ap
    (λ (xs : List (List ℕ)). speaker_with setup 0 (map (λ _. own_session (setup.config).hold) peers) xs
    (kept (l.dropped).items (waits_of frames)))
    rests
    ∙ ap
    (λ (xs : List (List ℕ)). speaker_with setup 0 (map (λ _. own_session (setup.config).hold) peers)
    (map (λ _. []) peers) xs)
    waits

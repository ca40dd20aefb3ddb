-- The route of a received section is sound, and what the code reads of it is the definition's.
use Rattle.std.proofs.Common.{◌≡◌, ◌≤◌, ◌-◌, sym, ◌∙◌, ap, subst, ℕ, Bool, true, List, length, None, get_or}
use Rattle.std.specs.Prelude.{nat_le}
use borrow.Author.Tests.{leb-true}
use Rattle.xb_words.specs.Octets.{AreOctets}
use Rattle.xb_wire.specs.declared.numbers.TheConstants.{MAX_MESSAGE}
use Rattle.xb_domain.specs.declared.side.Side.{Side}
use Rattle.bgp_attr.specs.Paths.{width_of}
use Rattle.bgp_attr.specs.Routes.{Route, route_of, canon}
use Rattle.bgp_check.specs.Judgement.{judge_section}
use Rattle.bgp_fsm.specs.Sessions.{Owned}
use Rattle.spk_native.specs.Filters.{as_received}
use Rattle.spk_native.specs.Receipt.{inflow}
use Rattle.spk_native.specs.Values.{IsFaultless}
use Rattle.spk_native.proofs.SoundLemmas.{IsFaultless-route_of, HasMandatory-received, HasNoFault-received}
use Rattle.spk_model.specs.Sources.{is_wide, side_of}
use Rattle.spk_model.specs.Routing.{route_in}
use Rattle.spk_routes.specs.Sound.{IsSound}
use Rattle.host_interned.specs.declared.routing.Core.{Core}
use Rattle.host_interned.specs.Meaning.{setup_of}
use Rattle.host_interned.proofs.ExportLemmas.{session_at}

-- the form of a peer's session
pub wide_at : (sessions : List Owned) (p : ℕ) (s : Owned) (wide : Bool) → 1 ≤ p → p ≤ length sessions
    → s ≡ get_or sessions (p - 1) s → wide ≡ (s.session).wide → wide ≡ is_wide sessions p
wide_at sessions p s wide least most is wide_is =
    wide_is ∙ ap (λ (x : Owned). (x.session).wide) (session_at sessions p s least most is)

-- a section without fault has no fault in its session's form
pub section_faultless : (sessions : List Owned) (p : ℕ) (s : List ℕ) (wide : Bool) → wide ≡ is_wide sessions p
    → judge_section (width_of (is_wide sessions p)) s true ≡ None → IsFaultless (width_of wide) (route_of s)
section_faultless sessions p s wide wide_is good =
    subst (λ (b : Bool). IsFaultless (width_of b) (route_of s)) (sym wide_is)
    (IsFaultless-route_of (width_of (is_wide sessions p)) s true good)

-- what the code reads is the definition's
pub route_is : (a : Core) (sessions : List Owned) (p : ℕ) (side : Side) (s : List ℕ) (wide : Bool)
    → side ≡ side_of a.config sessions p → wide ≡ is_wide sessions p
    → inflow (as_received side (route_of s)) wide ≡ route_in (setup_of a) sessions p s
route_is a sessions p side s wide side_is wide_is =
    ap (λ (x : Side). inflow (as_received x (route_of s)) wide) side_is
    ∙ ap (inflow (as_received (side_of a.config sessions p) (route_of s))) wide_is

-- a route that is short enough is sound
pub received_sound : (a : Core) (sessions : List Owned) (p : ℕ) (s : List ℕ) (route : Route) → AreOctets s
    → judge_section (width_of (is_wide sessions p)) s true ≡ None
    → route ≡ route_in (setup_of a) sessions p s
    → nat_le (length (canon (route_in (setup_of a) sessions p s))) MAX_MESSAGE ≡ true → IsSound route
received_sound a sessions p s route octets good is fits =
    let there = HasMandatory-received s (side_of a.config sessions p) (is_wide sessions p) octets good in
    subst IsSound (sym is) (record {
      mandatory = record { origin = there.origin; path = there.path; next_hop = there.next_hop };
      faultless = HasNoFault-received s (side_of a.config sessions p) (is_wide sessions p) true octets good;
      short = leb-true (length (canon (route_in (setup_of a) sessions p s))) MAX_MESSAGE fits;
    })

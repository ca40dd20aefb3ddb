-- The section that is sent of a route without faults.
use Rattle.std.proofs.Common.{◌≡◌, ◌∙◌, sym, ap, subst, ℕ, Bool, true, false, List, [], length}
use Rattle.std.specs.Prelude.{IfSome, IsTrue, ◌&&◌, nat_le, unwrap_or}
use Rattle.xb_wire.specs.declared.numbers.TheConstants.{MAX_SECTION}
use Rattle.bgp_attr.specs.Routes.{Route, route_of, IsRoute}
use Rattle.bgp_check.specs.Judgement.{is_clean}
use Rattle.spk_native.specs.Export.{native_section}
use Rattle.spk_native.specs.Values.{HasNoFault}
use Rattle.spk_native.proofs.SoundLemmas.{HasNoFault-clean}
use Rattle.spk_native.proofs.SentLemmas.{HasNoFault-native_section}
use Rattle.xbgp_points.specs.declared.outcome.Outcome.{Outcome}
use Rattle.xbgp_points.specs.declared.outcome.Outcome.TheVariants.{Verdict, Native, Failed}
use Rattle.xbgp_points.specs.Chains.{encoded, is_sendable}
use Rattle.xbgp_points.specs.Points.{Called, given_section, section_by, section_left}
use Rattle.spk_routes.specs.Exports.{given_or}

and_right : (a b : Bool) → (a && b) ≡ true → b ≡ true
and_right true b e = e
and_right false b e = absurd (cc e)

sent_clean : (s : List ℕ) → IsTrue (is_sendable s) → HasNoFault (route_of s)
sent_clean s is = HasNoFault-clean s (and_right (nat_le (length s) MAX_SECTION) (is_clean s) is)

-- the section that programs gave, or the native one, has no fault
by_outcome : (o : Outcome) (route : Route) (buffer native : List ℕ)
    → IfSome (section_by o route buffer) (λ s. IsTrue (is_sendable s)) → HasNoFault (route_of native)
    → HasNoFault (route_of (given_or o (unwrap_or (section_by o route buffer) []) native))
by_outcome (Verdict v) route buffer native sendable none = sent_clean (encoded v route buffer) sendable
by_outcome Native route buffer native sendable none = none
by_outcome (Failed program cause) route buffer native sendable none = none

pub given_faultless : (c : Called) (route : Route) (o : Outcome) (given native result : List ℕ)
    → o ≡ c.outcome → given ≡ section_left c → IfSome (given_section c) (λ s. IsTrue (is_sendable s))
    → native ≡ native_section route → IsRoute route → HasNoFault route
    → result ≡ given_or o given native → HasNoFault (route_of result)
given_faultless c route o given native result o_is given_is sendable native_is is none result_is =
    let all : result ≡ given_or c.outcome (section_left c) (native_section route) =
    result_is
    ∙ ap (λ (x : Outcome). given_or x given native) o_is
    ∙ ap (λ (s : List ℕ). given_or c.outcome s native) given_is
    ∙ ap (given_or c.outcome (section_left c)) native_is in
    subst (λ (s : List ℕ). HasNoFault (route_of s)) (sym all)
    (by_outcome c.outcome c.route c.buffer (native_section route) sendable (HasNoFault-native_section route is none))

-- A section that was checked has no fault, and sound mandatory attributes.
use Rattle.std.proofs.Common.{◌≡◌, ◌∙◌, refl, sym, true, false, List, ℕ, Option, Some, None, is_some}
use Rattle.std.specs.Option.{option_map}
use Rattle.xb_wire.specs.Messages.{Notification}
use Rattle.bgp_attr.specs.declared.codes.TheConstants.{ORIGIN, AS_PATH, NEXT_HOP}
use Rattle.bgp_attr.specs.Routes.{Route, route_of}
use Rattle.bgp_check.specs.Judgement.{judge_section}
use Rattle.spk_native.specs.Values.{has_sound, IsFaultless}
use Rattle.spk_native.proofs.SoundLemmas.{HasMandatory-route_of, IsFaultless-route_of, has_sound-HasNoFault}

pub record HasSound (r : Route) : Type 0 where
  pub origin : has_sound r ORIGIN ≡ true
  pub path : has_sound r AS_PATH ≡ true
  pub next_hop : has_sound r NEXT_HOP ≡ true

no_notice : {A : Type 0} (view : A → Notification) (o : Option A) → is_some o ≡ false → option_map view o ≡ None
no_notice view None e = refl
no_notice view (Some n) e = absurd (cc e)

pub IsFaultless-checked : {A : Type 0} (w : ℕ) (s : List ℕ) (view : A → Notification) (o : Option A) → is_some o ≡ false
    → option_map view o ≡ judge_section w s true → IsFaultless w (route_of s)
IsFaultless-checked w s view o none judged = IsFaultless-route_of w s true (sym judged ∙ no_notice view o none)

pub has_sound-checked : {A : Type 0} (s : List ℕ) (view : A → Notification) (o : Option A) → is_some o ≡ false
    → option_map view o ≡ judge_section 4 s true → HasSound (route_of s)
has_sound-checked s view o none judged =
    let e = sym judged ∙ no_notice view o none in
    let faultless = IsFaultless-route_of 4 s true e in
    let there = HasMandatory-route_of 4 s e in
    record {
      origin = has_sound-HasNoFault (route_of s) ORIGIN faultless there.origin;
      path = has_sound-HasNoFault (route_of s) AS_PATH faultless there.path;
      next_hop = has_sound-HasNoFault (route_of s) NEXT_HOP faultless there.next_hop;
    }

-- Sound routes.
use Rattle.std.proofs.Common.{◌≡◌, refl, sym, ap, ℕ, true, Option, Some, None}
use Rattle.std.specs.Prelude.{is_some, is_none}
use Rattle.bgp_attr.specs.Routes.{Attribute, Route, attribute_at}
use Rattle.spk_native.specs.Values.{HasNoFault, has_sound, is_sound}
use Rattle.xbgp_points.specs.Engines.{KeepsRoute}
use Rattle.spk_routes.specs.Sound.{IsSound}

there_sound : (r : Route) (code : ℕ) (o : Option Attribute) → HasNoFault r → o ≡ attribute_at r code
    → is_some o ≡ true → is_sound code o ≡ true
there_sound r code None none e there = absurd (cc there)
there_sound r code (Some a) none e there = ap is_none (none code a (sym e))

-- an attribute that is there is sound
pub has_sound-some : (r : Route) (code : ℕ) → HasNoFault r → is_some (attribute_at r code) ≡ true
    → has_sound r code ≡ true
has_sound-some r code none there = there_sound r code (attribute_at r code) none refl there

-- a chain keeps a route sound
pub keeps_sound : (before after : Route) → KeepsRoute before after → IsSound before → IsSound after
keeps_sound before after keeps is = record {
  mandatory = keeps.mandatory is.mandatory;
  faultless = keeps.faultless is.faultless;
  short = keeps.short is.short;
}

-- The route of a local network is sound.
use Rattle.std.proofs.Common.{◌≡◌, ◌<◌, ◌∙◌, ◌/◌, ◌%◌, ◌^◌, refl, sym, ap, subst, ℕ, Bool, true, false, []}
use Rattle.std.proofs.Common.{◌∷◌, arith, lit≤, None}
use Rattle.std.specs.Prelude.{IsTrue, ◌==◌, ◌&&◌, not, nat_lt}
use borrow.Author.Tests.{ltb-true}
use Rattle.std.specs.List.{AllByRecursion}
use Rattle.std.specs.Ordering.{nat_cmp}
use Rattle.std.proofs.lemmas.Map.Lookups.{exact_unsigned}
use Rattle.xb_words.specs.Cut.{cut}
use Rattle.xb_words.specs.Octets.{four_octets}
use Rattle.xb_words.proofs.TableLemmas.{value_at-some}
use Rattle.bgp_attr.specs.Routes.{Attribute}
use Rattle.bgp_attr.specs.Rules.{attr_fault, fault_if, is_host}
use Rattle.bgp_attr.specs.declared.rule.AttrFault.{AttrFault}
use Rattle.bgp_attr.specs.declared.rule.AttrFault.TheVariants.{NextHop}
use Rattle.spk_native.specs.Values.{HasNoFault}
use Rattle.xbgp_config.specs.Configs.{Config, IsConfig, is_host_address}
use Rattle.spk_model.specs.Sources.{local_route}
use Rattle.spk_routes.specs.Sound.{IsSound}

abbrev Faultless : ℕ × Attribute → Type 0
Faultless e = attr_fault 4 e.0 e.1.flags e.1.value ≡ None

origin_good : attr_fault 4 1 64 (0 ∷ []) ≡ None
unfolding attr_fault
origin_good = refl

path_good : attr_fault 4 2 64 [] ≡ None
unfolding attr_fault cut
path_good = refl

and_right : (a b : Bool) → (a && b) ≡ true → b ≡ true
and_right true b e = e
and_right false b e = absurd (cc e)

host_below : (first : ℕ) → is_host first ≡ true → first < 256
host_below first is =
    let below : nat_lt first 224 ≡ true =
    and_right (not (first == 0) && not (first == 127)) (nat_lt first 224) is in
    omega (arith, ltb-true first 224 below)

fault_if-not : (fine : Bool) (fault : AttrFault) → fine ≡ true → fault_if (not fine) fault ≡ None
fault_if-not true fault is = refl
fault_if-not false fault is = absurd (cc is)

hop_good : (address : ℕ) → IsTrue (is_host_address address) → attr_fault 4 3 64 (four_octets address) ≡ None
unfolding attr_fault
hop_good address is =
    let below : address / 2 ^ 24 < 256 = host_below (address / 2 ^ 24) is in
    let same : address / 16777216 % 256 ≡ address / 2 ^ 24 = omega (arith, below) in
    fault_if-not (is_host (address / 16777216 % 256)) NextHop (ap is_host same ∙ is)

all_good : (config : Config) → IsConfig config → AllByRecursion Faultless (local_route config)
all_good config is = (origin_good, (path_good, (hop_good (config.local).address is.address, tt)))

no_fault : (config : Config) → IsConfig config → HasNoFault (local_route config)
no_fault config is code a at =
    let w = value_at-some nat_cmp Faultless (local_route config) code a (all_good config is) at in
    subst (λ (k : ℕ). attr_fault 4 k a.flags a.value ≡ None) (sym (exact_unsigned code w.0 w.1)) w.2

pub local_sound : (config : Config) → IsConfig config → IsSound (local_route config)
local_sound config is = record {
  mandatory = record { origin = refl; path = refl; next_hop = refl };
  faultless = no_fault config is;
  short = lit≤ tt;
}

-- Laws of chains.
use Rattle.std.proofs.Common.{◌≡◌, ◌∙◌, refl, ap, ℕ, List}
use Rattle.bgp_attr.specs.Routes.{IsRoute}
use Rattle.xb_domain.specs.declared.point.Point.{Point}
use Rattle.xb_domain.specs.declared.point.Point.TheVariants.{Receive, Inbound, Decision, Outbound, Encode}
use Rattle.xbgp_helpers.specs.Changes.{changed_at}
use Rattle.xbgp_helpers.specs.Worlds.{World}
use Rattle.xbgp_helpers.proofs.ChangesLemmas.{bpf-changed}
use Rattle.xbgp_manifest.specs.Manifests.{Manifest}
use Rattle.xbgp_maps.specs.Mappings.{shapes_of}
use Rattle.xbgp_points.specs.Chains.{Faults, chain, programs_at}
use Rattle.xbgp_points.specs.Engines.{KeepsRoute}
use Rattle.xbgp_points.proofs.KeepLemmas.{chain-keeps}
use Rattle.xbgp_points.proofs.MapLemmas.{chain-shapes}
use Rattle.xbgp_points.proofs.SoundLemmas.{chain-keeps_route}

-- the parts that may not change are those of another world
abbrev IsChanged : Point → World → World → Type 0
IsChanged point w v = v ≡ changed_at point w v

changed-same : (point : Point) (w : World) → IsChanged point w w
changed-same Receive w = refl
changed-same Inbound w = refl
changed-same Decision w = refl
changed-same Outbound w = refl
changed-same Encode w = refl

-- and stay so
changed-twice : (point : Point) (w v x : World) → changed_at point (changed_at point w v) x ≡ changed_at point w x
changed-twice Receive w v x = refl
changed-twice Inbound w v x = refl
changed-twice Decision w v x = refl
changed-twice Outbound w v x = refl
changed-twice Encode w v x = refl

changed-then : (point : Point) (w v x : World) → IsChanged point w v → IsChanged point v x → IsChanged point w x
changed-then point w v x first second =
    second ∙ ap (λ (u : World). changed_at point u x) first ∙ changed-twice point w v x

changed-free : (point : Point) (w v : World) → IsChanged point w v → IsChanged point w (record v { mark = 0 })
changed-free Receive w v h = ap (λ (u : World). record u { mark = 0 }) h
changed-free Inbound w v h = ap (λ (u : World). record u { mark = 0 }) h
changed-free Decision w v h = ap (λ (u : World). record u { mark = 0 }) h
changed-free Outbound w v h = ap (λ (u : World). record u { mark = 0 }) h
changed-free Encode w v h = ap (λ (u : World). record u { mark = 0 }) h

module _ (m : Manifest) (point : Point) (window : List ℕ) (w : World) (noted : Faults) where
  pub chain_changes : let left = (chain m point window w noted).world in left ≡ changed_at point w left
  unfolding chain
  chain_changes =
      chain-keeps point (IsChanged point w)
      (λ code memory fuel v h. changed-then point w v _ h (bpf-changed point code memory fuel v))
      (λ v h. changed-free point w v h) window w noted (programs_at m point) w (changed-same point w)
      (changed-same point w)

  pub chain_keeps_route : IsRoute w.route → KeepsRoute w.route ((chain m point window w noted).world).route
  unfolding chain
  chain_keeps_route route = chain-keeps_route point window noted (programs_at m point) w route

  pub chain_keeps_shapes : shapes_of ((chain m point window w noted).world).maps ≡ shapes_of w.maps
  unfolding chain
  chain_keeps_shapes = chain-shapes point window noted (programs_at m point) w

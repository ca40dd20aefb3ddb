use Rattle.std.proofs.Common.{◌≡◌, ◌∙◌, ap, subst, Some, IfSome, slice_get}
use Rattle.bgp_attr.specs.Routes.{route_of, Route}
use Rattle.xbgp_view.proofs.ReadingLemmas.{route_of-canon}
use Rattle.spk_routes.proofs.kept.Kept.load.Goals as goal
use Rattle.spk_routes.proofs.kept.Kept.load.Goals.{in-None, in-Some}

pub returns-clause-forms : goal.returns-clause-forms
returns-clause-forms g c = elim c.match-canonical_section.branch [
  | in-None w ↦ rw w.self2-is tt
  | in-Some w ↦ rw (w.self2-is, w.self-is)
      (subst (λ (r : Route). IfSome w.find-self.result (λ i. slice_get w.find-self.new.self.places.items i ≡ Some r))
      (ap route_of w.in-Some.ensures.value ∙ route_of-canon c.load.new.self.route w.in-Some.ensures.shape)
      w.find-self.ensures)
]

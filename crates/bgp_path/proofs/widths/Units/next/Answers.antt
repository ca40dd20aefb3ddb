use Rattle.std.proofs.Common.{sym, ap, ◌∙◌, ◌-◌, ◌<◌, ◌∷◌, arith}
use Rattle.bgp_attr.specs.Paths.{path, width_of}
use Rattle.bgp_path.specs.Parts.{part_segment}
use Rattle.bgp_path.specs.Views.{segment_view}
use Rattle.bgp_path.specs.Widths.{first_units}
use Rattle.bgp_path.proofs.UnitsLemmas.{first_units-zero, first_units-split}
use Rattle.bgp_path.proofs.widths.Units.next.Goals as goal

pub returns-then-self-eq0-clause-end : goal.returns-then-self-eq0-clause-end
returns-then-self-eq0-clause-end c =
    let segments = path (width_of c.self.inside.wide) c.self.inside.rest.now in
    let none = ap (λ n. first_units n segments) c.if-self-eq0.true ∙ first_units-zero segments in
    rw (← c.self.view_is) (none, none)

pub returns-clause-item : goal.returns-clause-item
returns-clause-item c =
    let wide = c.self.inside.wide in
    let left = c.self.inside.left in
    let first = segment_view c.cut_to-first.result in
    let rest = c.in_ok-segment.rest.now in
    let some : 0 < left = omega (arith, c.if-self-eq0.false) in
    rw (← c.self.view_is)
    (first_units-split wide left c.self.inside.rest.now (segment_view c.in_ok-segment.segment) first rest some c.in_ok-segment.ensures.splits c.cut_to-first.ensures
    ∙ ap (λ n. part_segment (width_of wide) first ∷ first_units (left - n) (path (width_of wide) rest)) (sym c.hops_of.ensures))

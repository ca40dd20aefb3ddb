use Rattle.std.proofs.Common.{rules, ◌<◌, length, ap, sym, ◌∙◌, subst, arith}
use Rattle.std.proofs.lemmas.List.{length-set}
use Rattle.bgp_attr.specs.Routes.{IsRoute}
use Rattle.xbgp_view.specs.Indexes.{index_route, walked_route}
use Rattle.xbgp_view.proofs.EditsLemmas.{AreOctets-slice}
use Rattle.xbgp_view.proofs.IndexesLemmas.{index_route-set, walked_route-all, walked_route-end}
use Rattle.xbgp_view.proofs.LengthsLemmas.{IsRoute-route_of}
use Rattle.xbgp_view.proofs.section.SectionView.new.Goals as goal

pub attrs-preserved : goal.attrs-preserved
attrs-preserved c =
    let a = c.in-Some.attr in
    let small : c.from.result < 256 = search rules in
    let bound : a.code < length c.attrs.index = omega (arith, small, c.from.ensures, c.attrs.invariant.count) in
    record {
      route =
          rw c.from.ensures (ap (λ r. walked_route r c.next_attr.new.attrs) (index_route-set c.attrs.index a bound)
          ∙ ap (walked_route (index_route 0 c.attrs.index)) (sym c.in-Some.ensures.item)
          ∙ c.attrs.invariant.route);
      count = simp length-set c.attrs.invariant.count;
    }

pub returns : goal.returns
returns c =
    sym (walked_route-end (index_route 0 c.attrs.index) c.attrs.attrs c.in_default.ensures.end)
    ∙ c.attrs.invariant.route
    ∙ walked_route-all c.args.section.now

pub invariant_of-result : goal.invariant_of-result
invariant_of-result c =
    subst IsRoute
    (sym (sym (walked_route-end (index_route 0 c.attrs.index) c.attrs.attrs c.in_default.ensures.end)
    ∙ c.attrs.invariant.route
    ∙ walked_route-all c.args.section.now))
    (IsRoute-route_of c.args.section.now (AreOctets-slice c.args.section.now (λ i. (c.type_inv.section i).fits)) c.requires)

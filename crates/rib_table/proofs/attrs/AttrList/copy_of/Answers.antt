use Rattle.std.proofs.Common.{sym, subst, ◌∙◌, arith}
use Rattle.bgp_attr.specs.Routes.{IsRoute}
use Rattle.xbgp_view.proofs.ViewsLemmas.{below_code-all, below_code-zero, IsNext-code_from}
use Rattle.rib_table.proofs.NodeLemmas.{below_code-more}
use Rattle.rib_table.proofs.attrs.AttrList.copy_of.Goals as goal

pub codes-init : goal.codes-init
codes-init g c = (c.new-nodes.ensures.items ∙ sym (below_code-zero (g.R.RouteView.route c.args.view.now)), omega arith)

pub codes-smaller : goal.codes-smaller
codes-smaller g c =
    let r = g.R.RouteView.route c.args.view.now in
    let next = IsNext-code_from r c.codes.from c.in-Some.code c.in-Some.ensures.shape.entries
    c.in-Some.ensures.shape.rising c.in-Some.ensures.value in
    omega (arith, next.past, next.inside, c.from-from.ensures)

pub codes-preserved : goal.codes-preserved
codes-preserved g c =
    let r = g.R.RouteView.route c.args.view.now in
    let next = IsNext-code_from r c.codes.from c.in-Some.code c.in-Some.ensures.shape.entries
    c.in-Some.ensures.shape.rising c.in-Some.ensures.value in (
      below_code-more r c.codes.from c.in-Some.code c.from-from.result c.codes.nodes.items
          c.push_copy.new.nodes.items next c.codes.invariant.0 c.in_ok-push_copy.ensures c.from-from.ensures,
      omega (arith, next.inside, c.from-from.ensures),
    )

pub returns : goal.returns
returns g c =
    c.codes.invariant.0
    ∙ below_code-all (g.R.RouteView.route c.args.view.now) c.codes.from
    (sym c.in_default.is ∙ c.code_from.ensures.value)

pub invariant_of-result : goal.invariant_of-result
invariant_of-result g c = subst IsRoute (sym (returns g c)) c.code_from.ensures.shape

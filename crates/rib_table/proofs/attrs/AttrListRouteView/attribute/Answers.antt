use Rattle.std.proofs.Common.{ap, sym, subst, length, arith}
use Rattle.bgp_attr.specs.Routes.{IsRoute}
use Rattle.xbgp_view.proofs.ViewsLemmas.{IsOfRoute-attribute_at}
use Rattle.rib_table.proofs.attrs.AttrListRouteView.attribute.Goals as goal

pub new-requires : goal.new-requires
new-requires c =
    let is = subst IsRoute (sym c.deref.ensures.value) c.self.invariant in
    let a = c.in_ok-node.node.now.1 in
    let short = (IsOfRoute-attribute_at c.deref.result.now c.args.code a is c.in_ok-node.ensures).short in
    omega (arith, ap length c.value.ensures, short)

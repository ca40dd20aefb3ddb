use Rattle.std.proofs.Common.{sym, ap, ◌∙◌, true≢false}
use Rattle.bgp_attr.specs.Paths.{hops, leftmost}
use Rattle.spk_native.proofs.ValuesLemmas.{none-lent, path_of-absent, path_ok-value_at}
use Rattle.spk_native.proofs.decision.path_keys.Goals as goal

pub returns-in_default-clause-hops : goal.returns-in_default-clause-hops
returns-in_default-clause-hops g c =
    sym (ap hops (path_of-absent (g.R.RouteView.route c.args.route.now)
    (none-lent c.value_at.result _ c.value_at.ensures.value c.in_default.is)))

pub returns-in_default-clause-leftmost : goal.returns-in_default-clause-leftmost
returns-in_default-clause-leftmost g c =
    sym (ap leftmost (path_of-absent (g.R.RouteView.route c.args.route.now)
    (none-lent c.value_at.result _ c.value_at.ensures.value c.in_default.is)))

pub returns-in-None-clause-hops : goal.returns-in-None-clause-hops
returns-in-None-clause-hops g c =
    let ok = path_ok-value_at (g.R.RouteView.route c.args.route.now) _ c.requires (sym c.in-Some.ensures.value) in
    absurd (true≢false (sym ok ∙ sym c.in-None.ensures.path))

pub returns-in-None-clause-leftmost : goal.returns-in-None-clause-leftmost
returns-in-None-clause-leftmost g c =
    let ok = path_ok-value_at (g.R.RouteView.route c.args.route.now) _ c.requires (sym c.in-Some.ensures.value) in
    absurd (true≢false (sym ok ∙ sym c.in-None.ensures.path))

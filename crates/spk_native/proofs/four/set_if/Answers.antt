use Rattle.std.proofs.Common.{◌∙◌, ap, length, arith}
use Rattle.bgp_attr.specs.declared.TheConstants.{MAX_CANONICAL}
use Rattle.bgp_attr.specs.Routes.{canon}
use Rattle.xbgp_view.specs.Views.{Edited}
use Rattle.spk_native.proofs.RebuildsLemmas.{IsSet-some}
use Rattle.spk_native.proofs.four.set_if.Goals as goal

pub returns-in-Some-clause-after : goal.returns-in-Some-clause-after
returns-in-Some-clause-after c =
    let set = IsSet-some c.args.route.now.route c.args.code c.flags.result c.value.result.now c.args.held.now
    c.in-Some.attr
    MAX_CANONICAL c.in-Some.is c.flags.ensures c.value.ensures.value c.requires in
    (rw set.fits at c.set.ensures.after)
    ∙ ap (λ r. record { route = r; kept = c.args.route.now.kept }) set.same

pub returns-in-Some-clause-bound : goal.returns-in-Some-clause-bound
returns-in-Some-clause-bound c =
    let set = IsSet-some c.args.route.now.route c.args.code c.flags.result c.value.result.now c.args.held.now
    c.in-Some.attr
    MAX_CANONICAL c.in-Some.is c.flags.ensures c.value.ensures.value c.requires in
    omega (arith, set.bound, ap (λ (e : Edited). length (canon e.route)) (returns-in-Some-clause-after c))

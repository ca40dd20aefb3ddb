use Rattle.std.proofs.Common.{◌∙◌, ap, length, arith}
use Rattle.bgp_attr.specs.declared.codes.TheConstants.{MULTI_EXIT_DISC, LOCAL_PREF}
use Rattle.bgp_attr.specs.Routes.{canon, without_attribute}
use Rattle.xbgp_view.specs.Views.{Edited}
use Rattle.spk_native.specs.Export.{to_external}
use Rattle.spk_native.proofs.CarryLemmas.{IsExternal, IsExternal-hop}
use Rattle.spk_native.proofs.export.send_external.Goals as goal

-- the route after its path was set
external : (c : goal.After-unset-2)
    → IsExternal c.args.route.now.route c.prepend_number.new.route.route c.args.local.now c.to_be_bytes.result
external c =
    IsExternal-hop c.args.route.now.route c.prepend_number.new.route.route c.args.local.now c.to_be_bytes.result
    c.prepend_number.ensures.shape (omega (arith, c.prepend_number.ensures.bound, c.requires.short))
    c.requires.next_hop (ap (λ (e : Edited). e.route) c.prepend_number.ensures.after) c.to_be_bytes.ensures

pub returns-clause-after : goal.returns-clause-after
returns-clause-after c =
    let r = c.args.route.now.route in
    let local = c.args.local.now in
    let is = external c in
    c.unset-2.ensures.after
    ∙ ap (λ (e : Edited). record { route = without_attribute e.route MULTI_EXIT_DISC; kept = e.kept })
    (c.unset.ensures.after
    ∙ ap (λ (e : Edited). record { route = without_attribute e.route LOCAL_PREF; kept = e.kept })
    (rw is.fits at c.set.ensures.after))
    ∙ ap (λ l. record { route = l; kept = c.prepend_number.new.route.kept }) is.after
    ∙ ap (λ (e : Edited). record { route = to_external r local; kept = e.kept }) c.prepend_number.ensures.after

pub returns-clause-bound : goal.returns-clause-bound
returns-clause-bound c =
    omega (
      arith,
      ap (λ (e : Edited). length (canon e.route)) (returns-clause-after c),
      (external c).bound,
      c.prepend_number.ensures.bound,
    )

use Rattle.std.proofs.Common.{◌∙◌, ap, length, arith}
use Rattle.std.specs.Prelude.{not}
use Rattle.bgp_attr.specs.Routes.{canon}
use Rattle.xbgp_view.specs.Views.{Edited}
use Rattle.spk_native.proofs.CarryLemmas.{IsInternal-absent}
use Rattle.spk_native.proofs.export.send_internal.Goals as goal

pub returns-then-is_none-clause-after : goal.returns-then-is_none-clause-after
returns-then-is_none-clause-after c =
    let is = IsInternal-absent c.args.route.now.route c.args.local_pref c.to_be_bytes.result c.flags_len.result
    c.requires c.flags_len.ensures.value (ap not (c.is_none.ensures ∙ ap not c.if-is_none.true))
    c.to_be_bytes.ensures in
    (rw is.fits at c.set.ensures.after)
    ∙ ap (λ l. record { route = l; kept = c.args.route.now.kept }) is.after

pub returns-then-is_none-clause-bound : goal.returns-then-is_none-clause-bound
returns-then-is_none-clause-bound c =
    let is = IsInternal-absent c.args.route.now.route c.args.local_pref c.to_be_bytes.result c.flags_len.result
    c.requires c.flags_len.ensures.value (ap not (c.is_none.ensures ∙ ap not c.if-is_none.true))
    c.to_be_bytes.ensures in
    omega (
      arith,
      ap (λ (e : Edited). length (canon e.route)) (returns-then-is_none-clause-after c),
      ap (λ l. length (canon l)) is.after,
      is.bound,
    )

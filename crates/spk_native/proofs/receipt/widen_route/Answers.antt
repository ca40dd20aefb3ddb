use Rattle.std.proofs.Common.{◌≡◌, ap, subst, sym, ◌∙◌, length, nat_le}
use Rattle.std.specs.Prelude.{MatchBool}
use Rattle.xb_wire.specs.declared.numbers.TheConstants.{MAX_MESSAGE}
use Rattle.bgp_attr.specs.Routes.{Route, canon}
use Rattle.spk_native.specs.Receipt.{inflow, without_narrow}
use Rattle.spk_native.proofs.ReceiptLemmas.{inflow-wide}
use Rattle.spk_native.proofs.receipt.widen_route.Goals as goal

in_wide : (c : goal.After-drop_narrow)
    → without_narrow c.args.route.now.route ≡ inflow c.args.route.now.route c.args.wide
in_wide c =
    let r = c.args.route.now.route in
    sym (ap (inflow r) c.if-wide.true ∙ inflow-wide r)

pub returns-then-wide-clause-fits : goal.returns-then-wide-clause-fits
returns-then-wide-clause-fits c =
    c.drop_narrow.ensures.fits ∙ ap (λ s. nat_le (length (canon s)) MAX_MESSAGE) (in_wide c)

pub returns-then-wide-clause-after : goal.returns-then-wide-clause-after
returns-then-wide-clause-after c =
    subst (λ (s : Route). MatchBool c.drop_narrow.result
    (c.drop_narrow.new.route ≡ record { route = s; kept = c.args.route.now.kept })
    (c.drop_narrow.new.route ≡ c.args.route.now))
    (in_wide c) c.drop_narrow.ensures.after

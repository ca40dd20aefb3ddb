use Rattle.std.proofs.Common.{◌∙◌, ap, sym}
use Rattle.xbgp_view.proofs.EditsLemmas.{without_attribute-absent}
use Rattle.spk_native.proofs.four.remove_if.Goals as goal

pub returns-else-had : goal.returns-else-had
returns-else-had c =
    let r = c.args.route.now in
    ap (λ l. record { route = l; kept = r.kept })
    (sym (without_attribute-absent c.args.code r.route (sym c.requires ∙ c.if-had.false)))

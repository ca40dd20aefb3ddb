use Rattle.std.proofs.Common.{sym}
use Rattle.spk_native.proofs.ValuesLemmas.{has_as-absent, none-lent}
use Rattle.spk_native.proofs.filters.path_has.Goals as goal

pub returns-in_default : goal.returns-in_default
returns-in_default g c =
    sym (has_as-absent c.args.asn (g.R.RouteView.route c.args.route.now)
    (none-lent c.value_at.result _ c.value_at.ensures.value c.in_default.is))

use Rattle.std.proofs.Common.{◌≡◌, ◌==◌, length, subst}
use Rattle.bgp_write.specs.Pending.{pending}
use Rattle.spk_model.specs.Routing.{Tables}
use Rattle.host_listed.proofs.TablesLemmas.{none_waits}
use Rattle.host_listed.proofs.tables.PeerTables.is_told.Goals as goal

pub returns : goal.returns
returns c =
    subst (λ (t : Tables). c.is_drained.result ≡ (length (pending t.adv t.told) == 0)) c.self.view_is
    (none_waits c.is_drained.result (pending c.self.inside.out.adv c.self.inside.out.told) c.is_drained.ensures)

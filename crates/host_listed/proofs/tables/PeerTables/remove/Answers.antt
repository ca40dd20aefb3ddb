use Rattle.host_listed.proofs.TablesLemmas.{sound_removed}
use Rattle.host_listed.proofs.tables.PeerTables.remove.Goals as goal

pub invariant_of-self : goal.invariant_of-self
invariant_of-self c =
    sound_removed c.self.inside.sent c.remove.new.self c.args.prefix c.self.invariant c.remove.ensures.after

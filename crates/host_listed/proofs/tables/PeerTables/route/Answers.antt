use Rattle.host_listed.proofs.TablesLemmas.{found_sound}
use Rattle.host_listed.proofs.tables.PeerTables.route.Goals as goal

pub returns-clause-sound : goal.returns-clause-sound
returns-clause-sound c = found_sound c.self.inside.sent c.args.prefix c.get.result c.self.invariant c.get.ensures

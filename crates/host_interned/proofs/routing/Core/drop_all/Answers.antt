use Rattle.xb_values.specs.Prefixes.{prefixes}
use Rattle.host_interned.proofs.UpdateLemmas.{drops}
use Rattle.host_interned.proofs.routing.Core.drop_all.Goals as goal

pub returns : goal.returns
returns c =
    drops c.args.self.now c.remove_all.new.self c.args.sessions.now c.args.peer (prefixes c.args.octets.now)
    c.requires.ready c.remove_all.ensures

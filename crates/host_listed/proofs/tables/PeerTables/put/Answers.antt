use Rattle.host_listed.proofs.TablesLemmas.{sound_put}
use Rattle.host_listed.proofs.tables.PeerTables.put.Goals as goal

pub invariant_of-self : goal.invariant_of-self
invariant_of-self g c =
    sound_put c.self.inside.sent c.put.new.self c.args.prefix (g.R.RouteView.route c.args.view.now) c.put.result
    c.self.invariant c.requires c.put.ensures.ok c.put.ensures.err

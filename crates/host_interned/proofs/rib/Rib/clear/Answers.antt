use Rattle.host_interned.proofs.RemovedLemmas.{cleared}
use Rattle.host_interned.proofs.rib.Rib.clear.Goals as goal

pub returns-clause-ok : goal.returns-clause-ok
returns-clause-ok c =
    let r = c.self.inside in
    cleared r.records r.own r.best r.peers.items c.remove_each.new.self c.args.self.now c.args.peer
    c.index_mut.result.now c.in_ok-out.out c.self.view_is c.requires.least c.requires.most c.index_mut.ensures.value
    c.remove_each.ensures c.in_ok-out.ensures

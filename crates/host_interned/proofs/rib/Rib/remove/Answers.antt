use Rattle.host_interned.proofs.KeptLemmas.{peer_lives, removes_sent}
use Rattle.host_interned.proofs.rib.Rib.remove.Goals as goal

pub remove_sent-requires-clause-all : goal.remove_sent-requires-clause-all
remove_sent-requires-clause-all c =
    let r = c.self.inside in
    peer_lives r.records r.own r.best r.peers.items c.args.self.now c.self.view_is c.self.invariant c.args.peer
    c.index_mut.result.now c.requires.least c.requires.most c.index_mut.ensures.value c.args.prefix

pub invariant_of-self : goal.invariant_of-self
invariant_of-self c =
    let r = c.self.inside in
    let e = c.remove_sent.ensures in
    (removes_sent r.records r.own r.best r.peers.items c.args.self.now c.self.view_is c.self.invariant c.args.peer
    c.index_mut.result.now c.requires.least c.requires.most c.index_mut.ensures.value c.args.prefix
    c.remove_sent.new.records c.remove_sent.new.sent e.sent e.records e.pooled).kept

pub returns : goal.returns
returns c =
    let r = c.self.inside in
    let e = c.remove_sent.ensures in
    (removes_sent r.records r.own r.best r.peers.items c.args.self.now c.self.view_is c.self.invariant c.args.peer
    c.index_mut.result.now c.requires.least c.requires.most c.index_mut.ensures.value c.args.prefix
    c.remove_sent.new.records c.remove_sent.new.sent e.sent e.records e.pooled).shows

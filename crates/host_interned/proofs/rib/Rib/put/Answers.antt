use Rattle.host_interned.proofs.KeptLemmas.{new_lives, peer_lives_still, puts_sent}
use Rattle.host_interned.proofs.rib.Rib.put.Goals as goal

pub put_sent-requires-clause-lives : goal.put_sent-requires-clause-lives
put_sent-requires-clause-lives g c =
    let r = c.self.inside in
    new_lives r.records r.own r.best r.peers.items c.args.self.now c.self.view_is c.self.invariant c.args.peer
    c.index_mut.result.now c.requires.least c.requires.most c.index_mut.ensures.value c.args.prefix c.in_ok-id.id
    (g.R.RouteView.route c.args.view.now) c.in_ok-id.ensures.meaning c.requires.sound c.intern.new.self
    c.in_ok-id.ensures.ok

pub put_sent-requires-clause-all : goal.put_sent-requires-clause-all
put_sent-requires-clause-all g c =
    let r = c.self.inside in
    peer_lives_still r.records r.own r.best r.peers.items c.args.self.now c.self.view_is c.self.invariant c.args.peer
    c.index_mut.result.now c.requires.least c.requires.most c.index_mut.ensures.value c.args.prefix c.in_ok-id.id
    (g.R.RouteView.route c.args.view.now) c.in_ok-id.ensures.meaning c.requires.sound c.intern.new.self
    c.in_ok-id.ensures.ok

pub invariant_of-self-2 : goal.invariant_of-self-2
invariant_of-self-2 g c =
    let r = c.self.inside in
    let e = c.put_sent.ensures in
    (puts_sent r.records r.own r.best r.peers.items c.args.self.now c.self.view_is c.self.invariant c.args.peer
    c.index_mut.result.now c.requires.least c.requires.most c.index_mut.ensures.value c.args.prefix c.in_ok-id.id
    (g.R.RouteView.route c.args.view.now) c.in_ok-id.ensures.meaning c.requires.sound c.intern.new.self
    c.in_ok-id.ensures.ok c.put_sent.result
    c.put_sent.new.records c.put_sent.new.sent c.in_ok-id.ensures.pooled e.ok e.ok_records e.err e.err_records e.rising
    e.pooled).kept

pub returns-clause-ok : goal.returns-clause-ok
returns-clause-ok g c =
    let r = c.self.inside in
    let e = c.put_sent.ensures in
    (puts_sent r.records r.own r.best r.peers.items c.args.self.now c.self.view_is c.self.invariant c.args.peer
    c.index_mut.result.now c.requires.least c.requires.most c.index_mut.ensures.value c.args.prefix c.in_ok-id.id
    (g.R.RouteView.route c.args.view.now) c.in_ok-id.ensures.meaning c.requires.sound c.intern.new.self
    c.in_ok-id.ensures.ok c.put_sent.result
    c.put_sent.new.records c.put_sent.new.sent c.in_ok-id.ensures.pooled e.ok e.ok_records e.err e.err_records e.rising
    e.pooled).ok

pub returns-clause-err : goal.returns-clause-err
returns-clause-err g c =
    let r = c.self.inside in
    let e = c.put_sent.ensures in
    (puts_sent r.records r.own r.best r.peers.items c.args.self.now c.self.view_is c.self.invariant c.args.peer
    c.index_mut.result.now c.requires.least c.requires.most c.index_mut.ensures.value c.args.prefix c.in_ok-id.id
    (g.R.RouteView.route c.args.view.now) c.in_ok-id.ensures.meaning c.requires.sound c.intern.new.self
    c.in_ok-id.ensures.ok c.put_sent.result
    c.put_sent.new.records c.put_sent.new.sent c.in_ok-id.ensures.pooled e.ok e.ok_records e.err e.err_records e.rising
    e.pooled).err

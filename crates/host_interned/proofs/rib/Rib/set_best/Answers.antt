use Rattle.std.proofs.Common.{◌+◌, arith}
use Rattle.host_interned.specs.Ribs.{meant, same_id, times_held}
use Rattle.host_interned.proofs.HeldLemmas.{chosen_live}
use Rattle.host_interned.proofs.KeptLemmas.{is_living, sets_best, shares, source_lives, stays_best}
use Rattle.host_interned.proofs.rib.Rib.set_best.Goals as goal

pub returns-then-is_best-clause-ok : goal.returns-then-is_best-clause-ok
returns-then-is_best-clause-ok c =
    let r = c.self.inside in
    stays_best r.records r.own r.best r.peers.items c.args.self.now c.self.view_is c.self.invariant c.args.source
    c.args.prefix c.in-Some.record c.in-Some.ensures (c.is_best.ensures.0 c.if-is_best.true)

pub share-requires : goal.share-requires
share-requires c =
    let r = c.self.inside in
    source_lives r.records r.own r.best r.peers.items c.args.self.now c.self.view_is c.self.invariant c.args.source
    c.args.prefix c.in-Some.record c.in-Some.ensures

pub put_chosen-requires-clause-lives : goal.put_chosen-requires-clause-lives
put_chosen-requires-clause-lives c =
    let r = c.self.inside in
    let alive = source_lives r.records r.own r.best r.peers.items c.args.self.now c.self.view_is c.self.invariant
    c.args.source c.args.prefix c.in-Some.record c.in-Some.ensures in
    let opened = shares r.records r.own r.best r.peers.items c.self.invariant c.in-Some.record c.share.new.self alive
    c.share.ensures.owner in
    is_living _ (meant r.records c.in-Some.record) opened.means

pub put_chosen-requires-clause-all : goal.put_chosen-requires-clause-all
put_chosen-requires-clause-all c =
    let r = c.self.inside in
    let alive = source_lives r.records r.own r.best r.peers.items c.args.self.now c.self.view_is c.self.invariant
    c.args.source c.args.prefix c.in-Some.record c.in-Some.ensures in
    let opened = shares r.records r.own r.best r.peers.items c.self.invariant c.in-Some.record c.share.new.self alive
    c.share.ensures.owner in
    chosen_live c.share.new.self (λ k. times_held k r.own r.best r.peers.items + same_id k c.in-Some.record) r.best
    opened.owned (λ k. omega (arith))

pub invariant_of-self : goal.invariant_of-self
invariant_of-self c =
    let r = c.self.inside in
    let e = c.put_chosen.ensures in
    (sets_best r.records r.own r.best r.peers.items c.args.self.now c.self.view_is c.self.invariant c.args.source
    c.args.prefix c.in-Some.record c.in-Some.ensures c.put_chosen.result c.share.new.self c.put_chosen.new.records
    c.put_chosen.new.best c.share.ensures.owner c.share.ensures.pooled e.ok e.ok_records e.err e.err_records e.rising
    e.pooled).kept

pub returns-clause-ok : goal.returns-clause-ok
returns-clause-ok c =
    let r = c.self.inside in
    let e = c.put_chosen.ensures in
    (sets_best r.records r.own r.best r.peers.items c.args.self.now c.self.view_is c.self.invariant c.args.source
    c.args.prefix c.in-Some.record c.in-Some.ensures c.put_chosen.result c.share.new.self c.put_chosen.new.records
    c.put_chosen.new.best c.share.ensures.owner c.share.ensures.pooled e.ok e.ok_records e.err e.err_records e.rising
    e.pooled).ok

pub returns-clause-err : goal.returns-clause-err
returns-clause-err c =
    let r = c.self.inside in
    let e = c.put_chosen.ensures in
    (sets_best r.records r.own r.best r.peers.items c.args.self.now c.self.view_is c.self.invariant c.args.source
    c.args.prefix c.in-Some.record c.in-Some.ensures c.put_chosen.result c.share.new.self c.put_chosen.new.records
    c.put_chosen.new.best c.share.ensures.owner c.share.ensures.pooled e.ok e.ok_records e.err e.err_records e.rising
    e.pooled).err

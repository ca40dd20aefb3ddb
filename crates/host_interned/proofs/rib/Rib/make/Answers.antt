use Rattle.host_interned.proofs.MadeLemmas.{fresh}
use Rattle.host_interned.proofs.rib.Rib.make.Goals as goal

pub invariant_of-result : goal.invariant_of-result
invariant_of-result g c =
    (fresh c.in_ok-records.records c.intern.new.self c.in_ok-own.own (g.R.RouteView.route c.args.own.now) c.args.count
    c.in_ok-best.best c.in_ok-peers.peers.items c.requires c.in_ok-records.ensures c.in_ok-own.ensures.ok
    c.in_ok-own.ensures.pooled c.in_ok-best.ensures c.in_ok-peers.ensures).0

pub returns : goal.returns
returns g c =
    (fresh c.in_ok-records.records c.intern.new.self c.in_ok-own.own (g.R.RouteView.route c.args.own.now) c.args.count
    c.in_ok-best.best c.in_ok-peers.peers.items c.requires c.in_ok-records.ensures c.in_ok-own.ensures.ok
    c.in_ok-own.ensures.pooled c.in_ok-best.ensures c.in_ok-peers.ensures).1

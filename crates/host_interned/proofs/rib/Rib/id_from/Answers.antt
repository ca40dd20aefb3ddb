use Rattle.std.proofs.Common.{◌≤◌, ◌∙◌, arith}
use Rattle.host_interned.proofs.KeptLemmas.{peer_id}
use Rattle.host_interned.proofs.rib.Rib.id_from.Goals as goal

pub returns : goal.returns
returns c =
    let r = c.self.inside in
    let least : 1 ≤ c.args.source = omega (arith, c.if-source-eq0.false) in
    peer_id r.records r.own r.best r.peers.items c.args.self.now c.self.view_is c.self.invariant c.args.source
    c.index.result.now least c.requires c.index.ensures c.args.prefix c.if-source-eq0.false c.copied.result
    (c.copied.ensures ∙ c.find.ensures.value)

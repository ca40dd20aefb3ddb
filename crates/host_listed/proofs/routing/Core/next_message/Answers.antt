use Rattle.std.proofs.Common.{◌-◌, refl}
use Rattle.std.proofs.lemmas.Bool.{OnTrue_at}
use Rattle.std.specs.Vec.{with_item}
use Rattle.host_listed.proofs.ListedLemmas.{ready_told, core_tells, core_less}
use Rattle.host_listed.proofs.routing.Core.next_message.Goals as goal

pub returns-clause-ready : goal.returns-clause-ready
returns-clause-ready c =
    let a = c.args.self.now in
    let p = c.args.peer in
    ready_told a p c.index_mut.result.now c.requires.ready c.requires.least c.requires.most c.index_mut.ensures.value
    (with_item a.peers (p - 1) c.next_message.new.self) c.next_message.new.self refl

pub returns-clause-tells : goal.returns-clause-tells
returns-clause-tells c =
    let a = c.args.self.now in
    let p = c.args.peer in
    core_tells a p c.index_mut.result.now c.requires.ready c.requires.least c.requires.most c.index_mut.ensures.value
    c.next_message.new.self c.args.out.now c.next_message.new.out c.next_message.result c.next_message.ensures.formed
    c.next_message.ensures.told c.next_message.ensures.written

pub returns-clause-less : goal.returns-clause-less
returns-clause-less c more =
    let a = c.args.self.now in
    let p = c.args.peer in
    core_less a p c.index_mut.result.now c.requires.ready c.requires.least c.requires.most c.index_mut.ensures.value
    c.next_message.new.self (OnTrue_at more c.next_message.ensures.less)

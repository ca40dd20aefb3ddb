use Rattle.std.proofs.Common.{refl}
use Rattle.std.proofs.lemmas.Bool.{OnTrue_at}
use Rattle.host_interned.proofs.ShownLemmas.{ready_with_peer}
use Rattle.host_interned.proofs.InternedLemmas.{core_tells}
use Rattle.host_interned.proofs.routing.Core.next_message.Goals as goal

pub returns-clause-ready : goal.returns-clause-ready
returns-clause-ready c =
    let a = c.args.self.now in
    ready_with_peer a a.engine c.next_message.new.self a.received a.route a.exporter c.args.peer _ c.requires.ready refl
    c.next_message.ensures.told

pub returns-clause-tells : goal.returns-clause-tells
returns-clause-tells c =
    core_tells c.args.self.now c.args.peer c.requires.ready c.requires.least c.requires.most c.next_message.new.self _
    c.args.out.now c.next_message.new.out c.next_message.result c.next_message.ensures.told
    c.next_message.ensures.formed refl c.next_message.ensures.written

pub returns-clause-less : goal.returns-clause-less
returns-clause-less c more = OnTrue_at more c.next_message.ensures.less

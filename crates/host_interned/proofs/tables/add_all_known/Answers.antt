use Rattle.host_interned.proofs.KnownLemmas.{known_by, known_end, known_more}
use Rattle.host_interned.proofs.tables.add_all_known.Goals as goal

pub peers-preserved : goal.peers-preserved
peers-preserved c =
    known_more known_by c.args.peers.now c.peers.peer-index c.peer-item.result c.peers.set c.add_known.new.set _
    c.peers-test.true c.peer-item.is c.in_ok-add_known.ensures c.peers.invariant

pub returns : goal.returns
returns c =
    known_end known_by c.args.peers.now c.peers.peer-index c.peers.set _ c.peers-test.false c.peers.invariant

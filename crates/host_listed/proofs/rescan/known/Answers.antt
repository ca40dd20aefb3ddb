use Rattle.std.proofs.Common.{flat_map}
use Rattle.host_listed.proofs.WalkLemmas.{known_of, known_first, known_then, known_all}
use Rattle.host_listed.proofs.rescan.known.Goals as goal

pub peers-init : goal.peers-init
peers-init c =
    known_first c.args.config.now.networks c.make-set.result c.add_local.new.set (flat_map known_of c.args.peers.now)
    c.make-set.ensures c.in_ok-add_local.ensures

pub peers-preserved : goal.peers-preserved
peers-preserved c =
    known_then c.args.peers.now c.peers.peer-index c.peer-item.result c.peers.set c.add_known.new.set _
    c.peers-test.true c.peer-item.is c.in_ok-add_known.ensures c.peers.invariant

pub returns : goal.returns
returns c =
    known_all c.args.peers.now c.peers.peer-index c.peers.set _ c.peers-test.false c.peers.invariant

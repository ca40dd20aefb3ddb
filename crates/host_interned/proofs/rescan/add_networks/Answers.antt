use Rattle.host_interned.proofs.WalkLemmas.{network_then}
use Rattle.host_interned.proofs.rescan.add_networks.Goals as goal

pub networks-preserved : goal.networks-preserved
networks-preserved c =
    network_then c.args.networks.now c.networks.i c.get.result c.networks.set c.add.new.self _ c.get.ensures
    c.in_ok-add.ensures.ok c.networks.invariant

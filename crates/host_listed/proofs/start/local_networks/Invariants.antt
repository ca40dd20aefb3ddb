use Rattle.std.proofs.Common.{◌≡◌, [], drop}
use Rattle.host_listed.specs.Starting.{with_networks}
use Rattle.host_listed.proofs.start.local_networks.Given as goal

-- the networks that are left finish the map
abbrev pub invariant-networks : goal.invariant-networks
invariant-networks l =
    with_networks l.own.route l.best.entries (drop l.i l.networks) ≡ with_networks l.own.route [] l.networks

use Rattle.std.proofs.Common.{◌≡◌, drop}
use Rattle.host_interned.specs.Starting.{with_networks}
use Rattle.host_interned.proofs.start.set_networks.Given as goal

-- the networks that are left finish the best routes
abbrev pub invariant-networks : goal.invariant-networks
invariant-networks l = record {
  own : l.rib.own ≡ l.fn.rib.own;
  tables : l.rib.tables ≡ l.fn.rib.tables;
  left : with_networks l.fn.rib.own l.rib.best (drop l.i l.networks)
      ≡ with_networks l.fn.rib.own l.fn.rib.best l.networks;
}

use Rattle.std.proofs.Common.{◌≡◌, length}
use Rattle.xb_values.specs.Prefixes.{prefixes}
use Rattle.spk_model.specs.Routing.{without_all}
use Rattle.host_listed.proofs.tables.PeerTables.remove_all.Given as goal

-- the prefixes that are left finish the removal
abbrev pub invariant-prefixes : goal.invariant-prefixes
invariant-prefixes l = record {
  adjin : without_all l.self.adjin l.rest ≡ without_all l.fn.self.adjin (prefixes l.octets);
  adv : l.self.adv ≡ l.fn.self.adv;
  told : l.self.told ≡ l.fn.self.told;
}

abbrev pub decreases-prefixes : goal.decreases-prefixes
decreases-prefixes l = length l.rest

use Rattle.std.proofs.Common.{◌≡◌, length}
use Rattle.std.specs.Prelude.{filter, not}
use Rattle.xb_words.specs.Table.{has_key}
use Rattle.xb_values.specs.Prefixes.{prefix_cmp, prefixes}
use Rattle.spk_model.specs.Routing.{without_all}
use Rattle.host_listed.proofs.tables.PeerTables.remove_others.Given as goal

-- the prefixes that are left finish the removal
abbrev pub invariant-prefixes : goal.invariant-prefixes
invariant-prefixes l = record {
  adjin : without_all l.self.adjin (filter (λ p. not (has_key prefix_cmp l.set p)) l.rest)
      ≡ without_all l.fn.self.adjin (filter (λ p. not (has_key prefix_cmp l.set p)) (prefixes l.octets));
  adv : l.self.adv ≡ l.fn.self.adv;
  told : l.self.told ≡ l.fn.self.told;
}

abbrev pub decreases-prefixes : goal.decreases-prefixes
decreases-prefixes l = length l.rest

use Rattle.std.proofs.Common.{◌≡◌, length}
use Rattle.std.specs.Prelude.{filter, not}
use Rattle.xb_words.specs.Table.{has_key}
use Rattle.xb_values.specs.Prefixes.{prefix_cmp, prefixes}
use Rattle.spk_model.specs.Routing.{without_all}
use Rattle.host_interned.specs.Ribs.{tables_in, with_sent, Shows}
use Rattle.host_interned.proofs.rib.Rib.remove_others.Given as goal

-- the rib differs from that at the start in what the peer sent alone, and the prefixes that are left finish the removal
abbrev pub invariant-prefixes : goal.invariant-prefixes
invariant-prefixes l = record {
  shows : Shows l.fn.self.own l.fn.self.best (with_sent l.fn.self l.peer (tables_in l.self l.peer).adjin) l.self;
  left : without_all (tables_in l.self l.peer).adjin (filter (λ p. not (has_key prefix_cmp l.fn.set p)) l.rest)
      ≡ without_all (tables_in l.fn.self l.peer).adjin
      (filter (λ p. not (has_key prefix_cmp l.fn.set p)) (prefixes l.octets));
}

abbrev pub decreases-prefixes : goal.decreases-prefixes
decreases-prefixes l = length l.rest

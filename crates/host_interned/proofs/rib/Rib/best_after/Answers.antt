use Rattle.std.proofs.Common.{sym, subst, ◌≡◌, ◌∙◌}
use Rattle.std.specs.Option.{option_map}
use Rattle.xb_words.specs.Table.{entry_after, IsRising}
use Rattle.xb_values.specs.Prefixes.{prefix_cmp}
use Rattle.host_interned.specs.Ribs.{RibView}
use Rattle.host_interned.proofs.MappedLemmas.{next_key-mapped, rising-mapped}
use Rattle.host_interned.proofs.KeptLemmas.{best_of_id}
use Rattle.host_interned.proofs.rib.Rib.best_after.Goals as goal

pub returns-clause-prefix : goal.returns-clause-prefix
returns-clause-prefix c =
    subst (λ (v : RibView). c.after.result ≡ option_map (λ e. e.0) (entry_after prefix_cmp v.best c.args.after))
    c.self.view_is
    (c.after.ensures.prefix
    ∙ sym (next_key-mapped prefix_cmp (best_of_id c.self.inside.records) c.self.inside.best c.args.after))

pub returns-clause-rising : goal.returns-clause-rising
returns-clause-rising c =
    subst (λ (v : RibView). IsRising prefix_cmp v.best) c.self.view_is
    (rising-mapped prefix_cmp (best_of_id c.self.inside.records) c.self.inside.best c.after.ensures.rising)

use Rattle.std.proofs.Common.{◌∙◌}
use Rattle.xb_values.specs.Prefixes.{prefix_cmp}
use Rattle.xb_values.proofs.PrefixLemmas.{prefix_total}
use Rattle.rib_tree.proofs.PageLemmas.{find-greater}
use Rattle.rib_tree.proofs.page.find_after.Goals as goal

pub returns : goal.returns
returns g c = c.find_greater.ensures ∙ find-greater prefix_cmp prefix_total c.args.key c.args.entries.now

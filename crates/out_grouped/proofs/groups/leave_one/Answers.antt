use Rattle.std.proofs.Common.{◌∙◌}
use Rattle.out_grouped.proofs.groups.leave_one.Goals as goal

pub returns-then-remove_from : goal.returns-then-remove_from
returns-then-remove_from c t = c.drop_group.ensures t ∙ c.remove_from.ensures.left t

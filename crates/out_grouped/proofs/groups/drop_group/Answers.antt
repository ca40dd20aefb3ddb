use Rattle.out_grouped.proofs.GroupLemmas.{AreSame-removed}
use Rattle.out_grouped.proofs.groups.drop_group.Goals as goal

pub returns : goal.returns
returns c =
    AreSame-removed c.args.groups.now c.remove.new.self c.args.section.now c.remove.ensures c.requires

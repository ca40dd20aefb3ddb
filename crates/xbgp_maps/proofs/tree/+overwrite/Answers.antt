use Rattle.std.proofs.Common.{◌≡◌, length, subst, arith}
use Rattle.std.proofs.lemmas.Grind.{common_steps}
use Rattle.xbgp_maps.specs.Trees.{entries_of, entries_below, HaveWidth}
use Rattle.xbgp_maps.proofs.TreesLemmas.{smaller_left, smaller_right, left_rises, right_rises}
use Rattle.xbgp_maps.proofs.TreesLemmas.{values_left, values_right, values_here}
use Rattle.xbgp_maps.proofs.tree.+overwrite.Goals as goal

pub overwrite-requires : goal.overwrite-requires
overwrite-requires t c =
    let n = c.deref_mut-node.result.now in
    let whole : entries_of c.args.tree.now ≡ entries_below n = grind (arith, common_steps) in
    let widths = subst (HaveWidth (length c.args.value.now)) whole c.requires.widths in
    (grind (arith, smaller_left), (grind (arith, common_steps, left_rises), (values_left n _ widths, grind (arith, common_steps))))

pub overwrite-requires-in-Greater : goal.overwrite-requires-in-Greater
overwrite-requires-in-Greater t c =
    let n = c.deref_mut-node.result.now in
    let whole : entries_of c.args.tree.now ≡ entries_below n = grind (arith, common_steps) in
    let widths = subst (HaveWidth (length c.args.value.now)) whole c.requires.widths in
    (grind (arith, smaller_right), (grind (arith, common_steps, right_rises), (values_right n _ widths, grind (arith, common_steps))))

pub copy_over-requires : goal.copy_over-requires
copy_over-requires t c =
    let n = c.deref_mut-node.result.now in
    let whole : entries_of c.args.tree.now ≡ entries_below n = grind (arith, common_steps) in
    values_here n _ (subst (HaveWidth (length c.args.value.now)) whole c.requires.widths)

use Rattle.std.proofs.Common.{◌≡◌, length, subst, ap, arith}
use Rattle.std.proofs.lemmas.Grind.{common_steps}
use Rattle.xbgp_maps.specs.Trees.{entries_of, entries_below, HaveWidth}
use Rattle.xbgp_maps.proofs.TreesLemmas.{smaller_left, smaller_right, left_rises, right_rises}
use Rattle.xbgp_maps.proofs.TreesLemmas.{values_left, values_right, values_here}
use Rattle.xbgp_maps.proofs.tree.+replace.Goals as goal

pub replace-requires : goal.replace-requires
replace-requires t c =
    let n = c.deref_mut-node.result.now in
    let whole : entries_of c.args.tree.now ≡ entries_below n = grind (arith, common_steps) in
    let widths = subst (HaveWidth (length c.args.value.now)) whole c.requires.widths in
    (grind (arith, smaller_left), (grind (arith, common_steps, left_rises), (values_left n _ widths, (c.requires.room, grind (arith, common_steps)))))

pub replace-requires-in-Greater : goal.replace-requires-in-Greater
replace-requires-in-Greater t c =
    let n = c.deref_mut-node.result.now in
    let whole : entries_of c.args.tree.now ≡ entries_below n = grind (arith, common_steps) in
    let widths = subst (HaveWidth (length c.args.value.now)) whole c.requires.widths in
    (grind (arith, smaller_right), (grind (arith, common_steps, right_rises), (values_right n _ widths, (c.requires.room, grind (arith, common_steps)))))

pub replace-requires-in-Equal : goal.replace-requires-in-Equal
replace-requires-in-Equal t c =
    let n = c.deref_mut-node.result.now in
    let whole : entries_of c.args.tree.now ≡ entries_below n = grind (arith, common_steps) in
    let width = values_here n _ (subst (HaveWidth (length c.args.value.now)) whole c.requires.widths) in
    let same : c.deref-in-Equal.result.now ≡ n.value.items = c.deref-in-Equal.ensures.value in
    let long = ap length same in
    let room = c.requires.room in
    omega (arith, width, long, room)

pub copy_over-requires : goal.copy_over-requires
copy_over-requires t c =
    let n = c.deref_mut-node.result.now in
    let whole : entries_of c.args.tree.now ≡ entries_below n = grind (arith, common_steps) in
    values_here n _ (subst (HaveWidth (length c.args.value.now)) whole c.requires.widths)

use Rattle.std.proofs.Common.{◌≡◌, ◌<◌, ◌≤◌, ◌+◌, ◌-◌, ◌^◌, ◌++◌, sym, ◌∙◌, arith}
use Rattle.std.proofs.lemmas.Grind.{common_steps}
use Rattle.xb_words.specs.Table.{without}
use Rattle.xb_values.specs.Prefixes.{prefix_cmp}
use Rattle.rib_tree.specs.declared.node.Node.TheVariants.{Fork}
use Rattle.rib_tree.specs.Trees.{entries_of, IsTree}
use Rattle.rib_tree.proofs.BlockLemmas.{part_bits}
use Rattle.rib_tree.proofs.TreesLemmas.{page_without, tree_rises, without-low, without-high}
use Rattle.rib_tree.proofs.node.change.+remove.Goals as goal

pub returns-in-Leaf-clause-tree : goal.returns-in-Leaf-clause-tree
returns-in-Leaf-clause-tree g t c =
    let leaf = rw c.in-Leaf.is at c.requires in
    rw c.take_out.ensures.after (page_without c.args.block.first c.args.block.bits
    c.in-Leaf.page.items c.args.key leaf.0 leaf.1)

pub remove-value-requires : goal.remove-value-requires
remove-value-requires g t c κs within =
    let b = c.args.block in
    let h = c.in-Fork.halves.value in
    let tree : IsTree b.first b.bits (Fork c.in-Fork.halves) = rw c.in-Fork.is at c.requires in
    let fewer = part_bits b.first b.bits h.block.first h.block.bits tree.1 in
    let some : 0 < h.block.bits = tree.0 in
    rw (c.low.ensures.first, c.low.ensures.bits, c.deref_mut-halves.ensures.value)
    (omega arith, (within, tree.2))

pub remove-value-requires-else-addr-middle : goal.remove-value-requires-else-addr-middle
remove-value-requires-else-addr-middle g t c κs within =
    let b = c.args.block in
    let h = c.in-Fork.halves.value in
    let tree : IsTree b.first b.bits (Fork c.in-Fork.halves) = rw c.in-Fork.is at c.requires in
    let fewer = part_bits b.first b.bits h.block.first h.block.bits tree.1 in
    let some : 0 < h.block.bits = tree.0 in
    rw (c.high.ensures.first, c.high.ensures.bits, c.deref_mut-halves.ensures.value)
    (omega arith, (within, tree.3))

pub returns-then-addr-middle-clause-entries : goal.returns-then-addr-middle-clause-entries
returns-then-addr-middle-clause-entries g t c =
    let b = c.args.block in
    let h = c.in-Fork.halves.value in
    let p = h.block in
    let tree : IsTree b.first b.bits (Fork c.in-Fork.halves) = rw c.in-Fork.is at c.requires in
    let side : c.args.key.addr < p.first + 2 ^ (p.bits - 1) =
    omega (arith, c.addr.ensures.value, rw c.deref_mut-halves.ensures.value at c.middle.ensures) in
    let parts : entries_of c.close_up.new.tree.node
    ≡ without prefix_cmp (entries_of h.low.node) c.args.key ++ entries_of h.high.node =
    grind (arith, common_steps) in
    let rising = tree_rises b.first b.bits (Fork c.in-Fork.halves) tree in
    rw c.in-Fork.is
    (parts ∙ sym (without-low p.first p.bits h.low.node h.high.node c.args.key rising tree.3 side))

pub returns-else-addr-middle-clause-entries : goal.returns-else-addr-middle-clause-entries
returns-else-addr-middle-clause-entries g t c =
    let b = c.args.block in
    let h = c.in-Fork.halves.value in
    let p = h.block in
    let tree : IsTree b.first b.bits (Fork c.in-Fork.halves) = rw c.in-Fork.is at c.requires in
    let side : p.first + 2 ^ (p.bits - 1) ≤ c.args.key.addr =
    omega (arith, c.addr.ensures.value, rw c.deref_mut-halves.ensures.value at c.middle.ensures) in
    let parts : entries_of c.close_up-else-addr-middle.new.tree.node
    ≡ entries_of h.low.node ++ without prefix_cmp (entries_of h.high.node) c.args.key =
    grind (arith, common_steps) in
    rw c.in-Fork.is
    (parts ∙ sym (without-high p.first p.bits h.low.node h.high.node c.args.key tree.2 side))

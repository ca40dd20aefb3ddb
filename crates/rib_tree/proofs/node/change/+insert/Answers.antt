use Rattle.std.proofs.Common.{◌<◌, ◌≤◌, ◌+◌, ◌-◌, ◌^◌, refl, arith}
use Rattle.rib_tree.specs.declared.node.Node.TheVariants.{Fork}
use Rattle.rib_tree.specs.Blocks.{IsIn}
use Rattle.rib_tree.specs.Trees.{IsTree}
use Rattle.rib_tree.proofs.BlockLemmas.{part_bits, IsIn-high}
use Rattle.rib_tree.proofs.TreesLemmas.{page_put}
use Rattle.rib_tree.proofs.node.change.+insert.Goals as goal

pub insert-requires-else-addr-middle : goal.insert-requires-else-addr-middle
insert-requires-else-addr-middle g t c κs within =
    let b = c.args.block in
    let h = c.in-Fork.halves.value in
    let tree : IsTree b.first b.bits (Fork c.in-Fork.halves) = rw c.in-Fork.is at c.if-not-make_room.ensures.tree in
    let fewer = part_bits b.first b.bits h.block.first h.block.bits tree.1 in
    let some : 0 < h.block.bits = tree.0 in
    let side : h.block.first + 2 ^ (h.block.bits - 1) ≤ c.args.key.addr =
    omega (arith, c.addr.ensures.value, rw c.deref_mut-halves.ensures.value at c.middle.ensures) in
    let room = rw c.in-Fork.is at c.if-not-make_room.ensures.room in
    let key : IsIn h.block.first h.block.bits c.args.key = room refl in
    rw (c.high.ensures.first, c.high.ensures.bits, c.deref_mut-halves.ensures.value)
    (omega arith, (within, (tree.3, IsIn-high h.block.first h.block.bits c.args.key some key side)))

pub returns-in-Leaf-clause-tree : goal.returns-in-Leaf-clause-tree
returns-in-Leaf-clause-tree g t c =
    let leaf = rw c.in-Leaf.is at c.if-not-make_room.ensures.tree in
    page_put c.put.result c.args.block.first c.args.block.bits c.in-Leaf.page.items
    c.put.new.entries.items c.args.key c.args.value c.put.ensures.ok c.put.ensures.err leaf.0 leaf.1 c.requires.key

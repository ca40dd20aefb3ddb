use Rattle.std.proofs.Common.{◌≡◌, ◌<◌, ◌≤◌, ◌+◌, ◌-◌, ◌^◌, refl, sym, ◌∙◌, arith}
use Rattle.std.proofs.lemmas.Bool.{lt-ltb, le-ltb}
use Rattle.rib_tree.specs.declared.node.Node.TheVariants.{Fork}
use Rattle.rib_tree.specs.Trees.{nodes_to, IsTree}
use Rattle.rib_tree.proofs.TreesLemmas.{IsTree-low, IsTree-high}
use Rattle.rib_tree.proofs.walk.+find.Goals as goal

pub find-requires : goal.find-requires
find-requires g t c κs within =
    let h = c.in-Fork.halves.value in
    let is : c.args.tree.now.node ≡ Fork c.in-Fork.halves = sym c.read.ensures.node ∙ c.in-Fork.is in
    let tree : IsTree 0 32 (Fork c.in-Fork.halves) = rw is at c.requires.tree in
    let half : IsTree 0 32 h.low.node =
    IsTree-low 0 32 h.block.first h.block.bits h.low.node tree.0 tree.1 tree.2 in
    let side : c.args.key.addr < h.block.first + 2 ^ (h.block.bits - 1) =
    omega (arith, c.addr.ensures.value, rw c.deref-halves.ensures at c.middle.ensures) in
    let path : nodes_to c.args.key c.args.tree.now.node ≡ 1 + nodes_to c.args.key h.low.node =
    rw (is, lt-ltb c.args.key.addr (h.block.first + 2 ^ (h.block.bits - 1)) side) refl in
    rw c.deref-halves.ensures
    (omega arith, (within.0, (within.1, (half, omega arith))))

pub find-requires-else-addr-middle : goal.find-requires-else-addr-middle
find-requires-else-addr-middle g t c κs within =
    let h = c.in-Fork.halves.value in
    let is : c.args.tree.now.node ≡ Fork c.in-Fork.halves = sym c.read.ensures.node ∙ c.in-Fork.is in
    let tree : IsTree 0 32 (Fork c.in-Fork.halves) = rw is at c.requires.tree in
    let half : IsTree 0 32 h.high.node =
    IsTree-high 0 32 h.block.first h.block.bits h.high.node tree.0 tree.1 tree.3 in
    let side : h.block.first + 2 ^ (h.block.bits - 1) ≤ c.args.key.addr =
    omega (arith, c.addr.ensures.value, rw c.deref-halves.ensures at c.middle.ensures) in
    let path : nodes_to c.args.key c.args.tree.now.node ≡ 1 + nodes_to c.args.key h.high.node =
    rw (is, le-ltb c.args.key.addr (h.block.first + 2 ^ (h.block.bits - 1)) side) refl in
    rw c.deref-halves.ensures
    (omega arith, (within.0, (within.1, (half, omega arith))))

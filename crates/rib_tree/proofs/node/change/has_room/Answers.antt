use Rattle.std.proofs.Common.{◌≡◌, sym, ◌∙◌}
use Rattle.rib_tree.specs.declared.node.Node.TheVariants.{Fork}
use Rattle.rib_tree.specs.Trees.{IsTree}
use Rattle.rib_tree.proofs.TreesLemmas.{fork_absent}
use Rattle.rib_tree.proofs.node.change.has_room.Goals as goal

pub returns-clause-absent : goal.returns-clause-absent
returns-clause-absent g c = λ not.
    let h = c.in-Fork.halves.value in
    let b = c.args.block in
    let is : c.args.tree.now.node ≡ Fork c.in-Fork.halves = sym c.read.ensures.node ∙ c.in-Fork.is in
    let tree : IsTree b.first b.bits (Fork c.in-Fork.halves) = rw is at c.requires in
    let has = rw c.deref-in-Fork.ensures at c.has.ensures in
    rw is (fork_absent h.block.first h.block.bits h.low.node h.high.node c.args.key tree.0 tree.2 tree.3
    (λ key. absurd (cc (has.1 key, not))))

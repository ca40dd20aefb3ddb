use Rattle.rib_tree.proofs.TreesLemmas.{page_of_none}
use Rattle.rib_tree.proofs.node.Subtree.empty.Goals as goal

pub returns-clause-tree : goal.returns-clause-tree
returns-clause-tree g c = λ first bits. rw c.of.ensures (page_of_none first bits c.new.result.items c.new.ensures.items)

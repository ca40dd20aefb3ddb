use Rattle.std.proofs.Common.{◌<◌, refl, arith}
use Rattle.std.proofs.lemmas.Grind.{common_steps}
use Rattle.xbgp_maps.specs.declared.node.Tree.TheViews.{Fork}
use Rattle.xbgp_maps.specs.Trees.{height_of}
use Rattle.xbgp_maps.proofs.HeightLemmas.{IsLow-sides_of_left, LeansRight-turned}
use Rattle.xbgp_maps.proofs.node.lean_right.Goals as goal

pub turn_right-requires-clause-left : goal.turn_right-requires-clause-left
turn_right-requires-clause-left c = rw c.in-Fork.is at (IsLow-sides_of_left c.args.tree c.requires.balanced c.requires.low).0

pub turn_right-requires-clause-middle : goal.turn_right-requires-clause-middle
turn_right-requires-clause-middle c = rw c.in-Fork.is at (IsLow-sides_of_left c.args.tree c.requires.balanced c.requires.low).1

pub returns-then-height-clause-leans : goal.returns-then-height-clause-leans
returns-then-height-clause-leans c =
    let node = c.in-Fork.node in
    let order : height_of node.value.right < height_of node.value.left = grind (arith, common_steps) in
    rw c.in-Fork.is (LeansRight-turned (Fork node) c.turn_right.result.value (Fork c.turn_right.result) (rw c.in-Fork.is at c.requires.some) (rw c.in-Fork.is at c.requires.balanced) order c.turn_right.ensures.turned refl refl refl)

use Rattle.std.proofs.Common.{◌<◌, refl, arith}
use Rattle.std.proofs.lemmas.Grind.{common_steps}
use Rattle.xbgp_maps.specs.declared.node.Tree.TheViews.{Fork}
use Rattle.xbgp_maps.specs.Trees.{height_of}
use Rattle.xbgp_maps.proofs.HeightLemmas.{IsLow-sides_of_right, LeansLeft-turned}
use Rattle.xbgp_maps.proofs.node.lean_left.Goals as goal

pub turn_left-requires-clause-middle : goal.turn_left-requires-clause-middle
turn_left-requires-clause-middle c = rw c.in-Fork.is at (IsLow-sides_of_right c.args.tree c.requires.balanced c.requires.low).0

pub turn_left-requires-clause-right : goal.turn_left-requires-clause-right
turn_left-requires-clause-right c = rw c.in-Fork.is at (IsLow-sides_of_right c.args.tree c.requires.balanced c.requires.low).1

pub returns-then-height-clause-leans : goal.returns-then-height-clause-leans
returns-then-height-clause-leans c =
    let node = c.in-Fork.node in
    let order : height_of node.value.left < height_of node.value.right = grind (arith, common_steps) in
    rw c.in-Fork.is (LeansLeft-turned (Fork node) c.turn_left.result.value (Fork c.turn_left.result) (rw c.in-Fork.is at c.requires.some) (rw c.in-Fork.is at c.requires.balanced) order c.turn_left.ensures.turned refl refl refl)

use Rattle.std.proofs.Common.{rules, ◌≡◌, ◌≤◌, length, map, Some, ◌∙◌, ap, arith}
use Rattle.std.proofs.lemmas.List.{length-map}
use Rattle.xbgp_maps.specs.declared.node.Node.{Node}
use Rattle.xbgp_maps.specs.Mappings.{Mapping}
use Rattle.xbgp_maps.specs.Trees.{entries_of, IsTaken}
use Rattle.xbgp_maps.proofs.HeightLemmas.{IsLow-height_of}
use Rattle.xbgp_maps.proofs.TablesLemmas.{table_gone, table_absent, taken_absent, width_there}
use Rattle.xbgp_maps.proofs.table.Table.take_out.Goals as goal

pub remove-requires-clause-low : goal.remove-requires-clause-low
remove-requires-clause-low c = IsLow-height_of c.self.inside.root c.self.inside.shape.entries c.self.invariant.1 c.self.invariant.0.kept.room (search rules)

pub invariant_of-self : goal.invariant_of-self
invariant_of-self c =
    let m : Mapping = record { shape = c.self.inside.shape; entries = entries_of c.self.inside.root } in
    (rw c.remove.ensures.entries (table_absent m _ _ c.args.key.now c.self.invariant.0 c.in-None.ensures.taken), c.remove.ensures.balanced)

pub replace-requires : goal.replace-requires
replace-requires c =
    let m : Mapping = record { shape = c.self.inside.shape; entries = entries_of c.self.inside.root } in
    let taken : IsTaken m.entries c.args.key.now (Some c.in-Some.node.value) = c.in-Some.ensures.taken in
    let width = width_there m c.args.key.now _ c.self.invariant.0.kept taken.0 in
    let room : m.shape.value ≤ c.args.before.now.capacity = rw (← c.self.view_is) at c.requires in
    let same : c.deref-in-Some.result.now ≡ c.in-Some.node.value.value.items = c.deref-in-Some.ensures.value ∙ ap (λ (n : Node). n.value.items) c.deref.ensures in
    let long = ap length same in
    omega (arith, width, room, long)

pub invariant_of-self-in-Some : goal.invariant_of-self-in-Some
invariant_of-self-in-Some c =
    let m : Mapping = record { shape = c.self.inside.shape; entries = entries_of c.self.inside.root } in
    let taken : IsTaken m.entries c.args.key.now (Some c.in-Some.node.value) = c.in-Some.ensures.taken in
    (rw c.remove.ensures.entries (table_gone (λ b. b.value) m c.keep.new.spare.items c.self.inside.spare.items c.in-Some.node _ _ c.args.key.now c.self.invariant.0 c.keep.ensures.items taken.0 taken.1 taken.2 c.keep.ensures.capacity), c.remove.ensures.balanced)

pub returns-in-None-clause-after : goal.returns-in-None-clause-after
returns-in-None-clause-after c =
    let m : Mapping = record { shape = c.self.inside.shape; entries = entries_of c.self.inside.root } in
    rw (← c.self.view_is, c.remove.ensures.entries) (taken_absent m c.args.key.now c.in-None.ensures.taken)

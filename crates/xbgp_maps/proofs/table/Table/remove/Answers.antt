use Rattle.std.proofs.Common.{rules, map, Some}
use Rattle.std.proofs.lemmas.List.{length-map}
use Rattle.xbgp_maps.specs.Mappings.{Mapping}
use Rattle.xbgp_maps.specs.Trees.{entries_of, IsTaken}
use Rattle.xbgp_maps.proofs.HeightLemmas.{IsLow-height_of}
use Rattle.xbgp_maps.proofs.TablesLemmas.{table_gone, table_absent, spare_below}
use Rattle.xbgp_maps.proofs.table.Table.remove.Goals as goal

pub keep-requires : goal.keep-requires
keep-requires c =
    let m : Mapping = record { shape = c.self.inside.shape; entries = entries_of c.self.inside.root } in
    let taken : IsTaken m.entries c.args.key.now (Some c.in-Some.node.value) = c.in-Some.ensures.taken in
    simp length-map at (spare_below m (map (λ b. b.value) c.self.inside.spare.items) _ c.args.key.now _ c.self.invariant.0 taken.0)

pub invariant_of-self : goal.invariant_of-self
invariant_of-self c =
    let m : Mapping = record { shape = c.self.inside.shape; entries = entries_of c.self.inside.root } in
    let taken : IsTaken m.entries c.args.key.now (Some c.in-Some.node.value) = c.in-Some.ensures.taken in
    (rw c.remove.ensures.entries (table_gone (λ b. b.value) m c.keep.new.spare.items c.self.inside.spare.items c.in-Some.node _ _ c.args.key.now c.self.invariant.0 c.keep.ensures.items taken.0 taken.1 taken.2 c.keep.ensures.capacity), c.remove.ensures.balanced)

pub invariant_of-self-in_default : goal.invariant_of-self-in_default
invariant_of-self-in_default c =
    let m : Mapping = record { shape = c.self.inside.shape; entries = entries_of c.self.inside.root } in
    (rw c.remove.ensures.entries (table_absent m _ _ c.args.key.now c.self.invariant.0 c.in_default.ensures.taken), c.remove.ensures.balanced)

pub remove-requires-clause-low : goal.remove-requires-clause-low
remove-requires-clause-low c = IsLow-height_of c.self.inside.root c.self.inside.shape.entries c.self.invariant.1 c.self.invariant.0.kept.room (search rules)

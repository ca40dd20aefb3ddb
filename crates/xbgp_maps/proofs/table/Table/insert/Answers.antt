use Rattle.std.proofs.Common.{rules, ◌≡◌, length, None, sym, ◌∙◌}
use Rattle.xbgp_maps.specs.Mappings.{Mapping, value_in}
use Rattle.xbgp_maps.specs.Tables.{IsBlank}
use Rattle.xbgp_maps.specs.Trees.{entries_of}
use Rattle.xbgp_maps.proofs.HeightLemmas.{IsLow-height_of}
use Rattle.xbgp_maps.proofs.TablesLemmas.{table_new, all_last}
use Rattle.xbgp_maps.proofs.table.Table.insert.Goals as goal

pub filled-requires-clause-key : goal.filled-requires-clause-key
filled-requires-clause-key c =
    let blank = all_last (IsBlank c.self.inside.shape) (λ b. b.value) c.pop.new.self.items c.in-Some.node (rw c.in-Some.ensures.items at c.self.invariant.0.blank) in
    let width : length c.args.key.now ≡ c.self.inside.shape.key = rw (← c.self.view_is) at c.requires.key in
    blank.key ∙ sym width

pub filled-requires-clause-value : goal.filled-requires-clause-value
filled-requires-clause-value c =
    let blank = all_last (IsBlank c.self.inside.shape) (λ b. b.value) c.pop.new.self.items c.in-Some.node (rw c.in-Some.ensures.items at c.self.invariant.0.blank) in
    let width : length c.args.value.now ≡ c.self.inside.shape.value = rw (← c.self.view_is) at c.requires.value in
    blank.value ∙ sym width

pub filled-requires-clause-alone : goal.filled-requires-clause-alone
filled-requires-clause-alone c =
    (all_last (IsBlank c.self.inside.shape) (λ b. b.value) c.pop.new.self.items c.in-Some.node (rw c.in-Some.ensures.items at c.self.invariant.0.blank)).alone

pub invariant_of-self : goal.invariant_of-self
invariant_of-self c =
    let m : Mapping = record { shape = c.self.inside.shape; entries = entries_of c.self.inside.root } in
    let absent : value_in m c.args.key.now ≡ None = rw (← c.self.view_is) at c.requires.absent in
    let key : length c.args.key.now ≡ m.shape.key = rw (← c.self.view_is) at c.requires.key in
    let value : length c.args.value.now ≡ m.shape.value = rw (← c.self.view_is) at c.requires.value in
    (rw (c.insert.ensures.entries, c.filled.ensures.key, c.filled.ensures.value) (table_new (λ b. b.value) m c.self.inside.spare.items c.pop.new.self.items c.in-Some.node _ _ c.args.key.now c.args.value.now c.self.invariant.0 c.in-Some.ensures.items c.in-Some.ensures.capacity absent key value), c.insert.ensures.balanced)

pub insert-requires-clause-low : goal.insert-requires-clause-low
insert-requires-clause-low c = IsLow-height_of c.self.inside.root c.self.inside.shape.entries c.self.invariant.1 c.self.invariant.0.kept.room (search rules)

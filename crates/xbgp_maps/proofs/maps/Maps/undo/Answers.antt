use Rattle.std.proofs.Common.{◌∙◌, sym}
use Rattle.xbgp_maps.proofs.JournalsLemmas.{can_take_last, can_take_rest, last_then_rest, no_last, undoable_undone}
use Rattle.xbgp_maps.proofs.JournalsLemmas.{undone_is, undone_shapes, undone_tables}
use Rattle.xbgp_maps.proofs.maps.Maps.undo.Goals as goal

pub take_back-requires : goal.take_back-requires
take_back-requires c =
    can_take_last c.writes.self-inside.journal c.in-Some.change.now c.writes.self-inside.tables.items (sym c.in-Some.ensures) c.writes.invariant.can

pub writes-preserved : goal.writes-preserved
writes-preserved c =
    let w = c.in-Some.change.now in
    let last = sym c.in-Some.ensures in
    rw (c.forget_last.ensures, c.take_back.ensures) (record {
      can = can_take_rest c.writes.self-inside.journal w c.writes.self-inside.tables.items last c.writes.invariant.can;
      finishes = last_then_rest c.writes.self-inside.journal w c.writes.self-inside.tables.items last ∙ c.writes.invariant.finishes;
    })

pub invariant_of-self : goal.invariant_of-self
invariant_of-self c =
    let none = sym c.in_default.ensures in
    undoable_undone c.self.inside.journal _ c.self.inside.tables.items _ c.self.invariant (no_last c.writes.self-inside.journal none) (undone_tables c.writes.self-inside.journal c.self.inside.journal c.writes.self-inside.tables.items c.self.inside.tables.items none c.writes.invariant.finishes)

pub returns-clause-undone : goal.returns-clause-undone
returns-clause-undone c =
    rw (← c.self.view_is) (undone_is c.self.inside.is_open c.self.inside.journal c.writes.self-inside.journal c.self.inside.tables.items c.writes.self-inside.tables.items (undone_tables c.writes.self-inside.journal c.self.inside.journal c.writes.self-inside.tables.items c.self.inside.tables.items (sym c.in_default.ensures) c.writes.invariant.finishes))

pub returns-clause-shapes : goal.returns-clause-shapes
returns-clause-shapes c =
    rw (← c.self.view_is) (undone_shapes c.self.inside.journal c.self.inside.tables.items c.writes.self-inside.tables.items (undone_tables c.writes.self-inside.journal c.self.inside.journal c.writes.self-inside.tables.items c.self.inside.tables.items (sym c.in_default.ensures) c.writes.invariant.finishes))

use Rattle.std.proofs.Common.{◌≡◌, ◌<◌, length, Some, true, refl}
use Rattle.std.specs.List.{slice_get}
use Rattle.std.proofs.lemmas.Option.{slice_get_read}
use Rattle.xbgp_maps.specs.Journals.{journal_view}
use Rattle.xbgp_maps.proofs.JournalsLemmas.{is_opened, remove_undoable, remove_seen, remove_shapes, began_after_remove}
use Rattle.xbgp_maps.proofs.maps.Maps.remove.Goals as goal

pub invariant_of-self : goal.invariant_of-self
invariant_of-self c =
    let m = c.index_mut-table.result.now in
    let bound : c.args.map < length c.self.inside.tables.items = rw (← c.self.view_is) at c.requires.map in
    let there : slice_get c.self.inside.tables.items c.args.map ≡ Some m = slice_get_read c.self.inside.tables.items _ c.args.map m refl bound c.index_mut-table.ensures.value in
    let width : length c.args.key.now ≡ m.shape.key = rw (← c.self.view_is, there) at c.requires.key in
    remove_undoable c.self.inside.journal _ c.self.inside.tables.items c.args.map m _ c.args.key.now c.take_out.result c.self.invariant there c.take_out.ensures.kept width c.take_out.ensures.answer c.take_out.ensures.table c.take_out.ensures.journal

pub returns-clause-answer : goal.returns-clause-answer
returns-clause-answer c =
    let m = c.index_mut-table.result.now in
    let bound : c.args.map < length c.self.inside.tables.items = rw (← c.self.view_is) at c.requires.map in
    let there : slice_get c.self.inside.tables.items c.args.map ≡ Some m = slice_get_read c.self.inside.tables.items _ c.args.map m refl bound c.index_mut-table.ensures.value in
    let opened : c.self.inside.is_open ≡ true = is_opened c.self.inside.is_open _ (rw (← c.self.view_is) at c.requires.open) in
    rw (← c.self.view_is, there, opened) c.take_out.ensures.answer

pub returns-clause-after : goal.returns-clause-after
returns-clause-after c =
    let m = c.index_mut-table.result.now in
    let bound : c.args.map < length c.self.inside.tables.items = rw (← c.self.view_is) at c.requires.map in
    let there : slice_get c.self.inside.tables.items c.args.map ≡ Some m = slice_get_read c.self.inside.tables.items _ c.args.map m refl bound c.index_mut-table.ensures.value in
    let opened : c.self.inside.is_open ≡ true = is_opened c.self.inside.is_open _ (rw (← c.self.view_is) at c.requires.open) in
    rw (← c.self.view_is, there) (remove_seen c.self.inside.is_open c.self.inside.journal _ c.self.inside.tables.items c.args.map m _ c.args.key.now c.take_out.result opened there c.take_out.ensures.kept c.take_out.ensures.answer c.take_out.ensures.table c.take_out.ensures.journal)

pub returns-clause-began : goal.returns-clause-began
returns-clause-began c =
    let m = c.index_mut-table.result.now in
    let bound : c.args.map < length c.self.inside.tables.items = rw (← c.self.view_is) at c.requires.map in
    let there : slice_get c.self.inside.tables.items c.args.map ≡ Some m = slice_get_read c.self.inside.tables.items _ c.args.map m refl bound c.index_mut-table.ensures.value in
    let opened : c.self.inside.is_open ≡ true = is_opened c.self.inside.is_open _ (rw (← c.self.view_is) at c.requires.open) in
    rw (← c.self.view_is) (began_after_remove (journal_view c.self.inside.is_open c.self.inside.journal c.self.inside.tables.items) _ c.args.map m c.args.key.now c.take_out.result (remove_seen c.self.inside.is_open c.self.inside.journal _ c.self.inside.tables.items c.args.map m _ c.args.key.now c.take_out.result opened there c.take_out.ensures.kept c.take_out.ensures.answer c.take_out.ensures.table c.take_out.ensures.journal))

pub returns-clause-shapes : goal.returns-clause-shapes
returns-clause-shapes c =
    let m = c.index_mut-table.result.now in
    let bound : c.args.map < length c.self.inside.tables.items = rw (← c.self.view_is) at c.requires.map in
    let there : slice_get c.self.inside.tables.items c.args.map ≡ Some m = slice_get_read c.self.inside.tables.items _ c.args.map m refl bound c.index_mut-table.ensures.value in
    rw (← c.self.view_is) (remove_shapes c.self.inside.tables.items c.args.map m _ c.args.key.now c.take_out.result there c.take_out.ensures.table)

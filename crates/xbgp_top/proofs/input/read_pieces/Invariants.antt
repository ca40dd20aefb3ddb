use Rattle.std.proofs.Common.{◌≡◌, ◌-◌, length}
use Rattle.xbgp_top.specs.Inputs.{IsFront}
use Rattle.xbgp_top.proofs.input.read_pieces.Given as goal

-- what was read is a front of the file; no fault came, and the shelf holds what it held
abbrev pub invariant-pieces : goal.invariant-pieces
invariant-pieces g l = record {
  held : g.S.Shelf.held l.shelf ≡ g.S.Shelf.held l.fn.shelf;
  faults : g.S.Shelf.faults l.shelf ≡ g.S.Shelf.faults l.fn.shelf;
  front : IsFront (g.S.Shelf.held l.fn.shelf) l.name l.input.items;
}

abbrev pub decreases-pieces : goal.decreases-pieces
decreases-pieces g l = 1048577 - length l.input.items

use Rattle.std.proofs.Common.{◌≡◌, ◌∙◌, length, arith}
use Rattle.xbgp_top.proofs.InputLemmas.{IsFront-append}
use Rattle.xbgp_top.proofs.input.read_pieces.Goals as goal

pub pieces-preserved : goal.pieces-preserved
pieces-preserved g c =
    let at : c.len-in-pieces.result ≡ length c.pieces.input.items = omega
    (arith, c.len-in-pieces.ensures, c.pieces.input.ok) in
    record {
      held = c.read.ensures.same ∙ c.pieces.invariant.held;
      faults = c.in-Ok.ensures.quiet ∙ c.pieces.invariant.faults;
      front = IsFront-append _ _ _ c.pieces.input.items _ _ _ _ _ c.pieces.invariant.held at c.pieces.invariant.front
          c.in-Ok.ensures.read
          c.if-is_err.ensures.negation c.extend_from_slice.ensures.items;
    }

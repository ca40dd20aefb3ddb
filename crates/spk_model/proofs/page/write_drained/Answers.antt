use Rattle.std.proofs.Common.{◌+◌, ◌*◌}
use Rattle.spk_model.proofs.TextLemmas.{drained_length, written}
use Rattle.spk_model.proofs.page.write_drained.Goals as goal

pub returns : goal.returns
returns c =
    written _ _ _ _ (96 + 2 * 0) c.in_ok-begin_words.ensures.empty c.in_ok-begin_words.ensures.room
    (drained_length c.args.peer c.ranges.peer.fits) c.drained_line.ensures

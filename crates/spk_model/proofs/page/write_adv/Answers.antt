use Rattle.std.proofs.Common.{◌+◌, ◌*◌, length}
use Rattle.spk_model.proofs.TextLemmas.{adv_length, written}
use Rattle.spk_model.proofs.page.write_adv.Goals as goal

pub returns : goal.returns
returns c =
    written _ _ _ _ (96 + 2 * length c.args.section.now) c.in_ok-begin_words.ensures.empty
    c.in_ok-begin_words.ensures.room
    (adv_length c.args.peer c.args.prefix c.args.section.now c.addr.ensures.prefix c.ranges.peer.fits)
    c.adv_line.ensures

use Rattle.std.proofs.Common.{◌+◌, ◌*◌, length}
use Rattle.spk_model.proofs.TextLemmas.{route_length, written}
use Rattle.spk_model.proofs.page.write_route.Goals as goal

pub returns : goal.returns
returns c =
    written _ _ _ _ (96 + 2 * length c.args.section.now) c.in_ok-begin_words.ensures.empty
    c.in_ok-begin_words.ensures.room
    (route_length c.args.prefix c.args.source c.args.section.now c.addr.ensures.prefix c.ranges.source.fits)
    c.route_line.ensures

use Rattle.std.proofs.Common.{◌∙◌, flat_map}
use Rattle.host_interned.proofs.WalkLemmas.{known_of, known_first}
use Rattle.host_interned.proofs.rescan.known.Goals as goal

pub returns : goal.returns
returns c =
    c.in_ok-add_known.ensures
    ∙ known_first c.args.config.now.networks c.make-set.result c.add_local.new.set
    (flat_map known_of c.args.rib.now.tables) c.make-set.ensures c.in_ok-add_local.ensures

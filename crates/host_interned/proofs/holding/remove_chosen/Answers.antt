use Rattle.std.proofs.Common.{sym}
use Rattle.host_interned.proofs.HeldLemmas.{chosen_lives}
use Rattle.host_interned.proofs.holding.remove_chosen.Goals as goal

pub release-requires : goal.release-requires
release-requires c =
    chosen_lives c.args.records.now c.args.best.now c.args.prefix c.in-Some.chosen c.requires.all
    (sym c.in-Some.ensures.value)

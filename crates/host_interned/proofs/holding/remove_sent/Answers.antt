use Rattle.std.proofs.Common.{sym}
use Rattle.host_interned.proofs.HeldLemmas.{sent_lives}
use Rattle.host_interned.proofs.holding.remove_sent.Goals as goal

pub release-requires : goal.release-requires
release-requires c =
    sent_lives c.args.records.now c.args.sent.now c.args.prefix c.in-Some.id c.requires.all
    (sym c.in-Some.ensures.value)

use Rattle.std.proofs.Common.{◌≡◌, Some}
use Rattle.xb_words.specs.Table.{value_at}
use Rattle.xb_values.specs.Prefixes.{prefix_cmp}
use Rattle.host_interned.proofs.HeldLemmas.{sent_lives}
use Rattle.host_interned.proofs.holding.put_sent.Goals as goal

pub release-requires : goal.release-requires
release-requires c =
    let is : value_at prefix_cmp c.args.sent.now c.args.prefix ≡ Some c.in-Ok-Some.old =
    cc (c.in-Ok-Some.ensures.old) in
    sent_lives c.args.records.now c.args.sent.now c.args.prefix c.in-Ok-Some.old c.requires.all is

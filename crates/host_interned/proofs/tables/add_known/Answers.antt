use Rattle.std.specs.Map.{keys_of}
use Rattle.std.proofs.lemmas.Result.{on_ok_weaker}
use Rattle.host_interned.proofs.KnownLemmas.{keys_more}
use Rattle.host_interned.proofs.tables.add_known.Goals as goal

pub returns : goal.returns
returns c =
    on_ok_weaker c.add_told.result
    (λ is. keys_more c.args.set.now c.add_sent.new.set c.add_told.new.set (keys_of c.args.tables.now.sent)
    (keys_of c.args.tables.now.out.adv) c.in_ok-add_sent.ensures is)
    c.add_told.ensures

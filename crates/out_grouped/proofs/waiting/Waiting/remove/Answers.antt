use Rattle.out_grouped.proofs.WaitLemmas.{HasBy-remove_key}
use Rattle.out_grouped.proofs.waiting.Waiting.remove.Goals as goal

pub returns : goal.returns
returns c ps has =
    HasBy-remove_key c.args.self.now.from c.args.prefix c.args.self.now.known.keys c.remove.new.self.keys ps
    c.remove.ensures.keys has

use Rattle.std.proofs.Common.{subst}
use Rattle.out_grouped.specs.Waits.{HasBy}
use Rattle.out_grouped.proofs.WaitLemmas.{HasBy-insert_key-from}
use Rattle.out_grouped.proofs.waiting.Waiting.add.Goals as goal

pub returns : goal.returns
returns c ps has =
    let known = c.args.self.now.known.keys in
    HasBy-insert_key-from c.in-Some.from c.earlier.result c.args.prefix known ps c.earlier.ensures.first
    c.earlier.ensures.second (subst (λ o. HasBy o known ps) c.in-Some.is has)

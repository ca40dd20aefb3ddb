use Rattle.out_grouped.proofs.WaitLemmas.{HasBy-found}
use Rattle.out_grouped.proofs.waiting.Waiting.start_at.Goals as goal

pub returns-then-is_some : goal.returns-then-is_some
returns-then-is_some c ps sorted is has =
    HasBy-found c.args.self.now.from c.args.first c.args.self.now.known.keys ps c.if-is_some.ensures sorted is has

use Rattle.work_gen.proofs.WorkLemmas.{drains_after-more}
use Rattle.work_gen.proofs.step.after_last_drain.Goals as goal

pub returns-then-peer-lt-WORK_PEERS-clause-events : goal.returns-then-peer-lt-WORK_PEERS-clause-events
returns-then-peer-lt-WORK_PEERS-clause-events c =
    λ x done left. drains_after-more c.args.peer c.if-peer-lt-WORK_PEERS.true

use Rattle.work_gen.proofs.WorkLemmas.{after_session-more}
use Rattle.work_gen.proofs.step.after_session.Goals as goal

pub returns-then-peer-lt-WORK_PEERS-clause-events : goal.returns-then-peer-lt-WORK_PEERS-clause-events
returns-then-peer-lt-WORK_PEERS-clause-events c =
    λ x done left. after_session-more c.args.peer x done left c.if-peer-lt-WORK_PEERS.true

use Rattle.std.proofs.Common.{List, ◌++◌, ap}
use Rattle.xb_domain.specs.Events.{Event}
use Rattle.work_gen.specs.Views.{updates_left}
use Rattle.work_gen.proofs.WorkLemmas.{drains_after-more}
use Rattle.work_gen.proofs.step.after_drain.Goals as goal

pub returns-then-peer-lt-WORK_PEERS-clause-events : goal.returns-then-peer-lt-WORK_PEERS-clause-events
returns-then-peer-lt-WORK_PEERS-clause-events c =
    λ x done left. ap (λ (ds : List Event). ds ++ updates_left x done left)
    (drains_after-more c.args.peer c.if-peer-lt-WORK_PEERS.true)

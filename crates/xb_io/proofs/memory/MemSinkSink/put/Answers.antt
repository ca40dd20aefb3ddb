use Rattle.std.proofs.Common.{rules, ◌-◌, length}
use Rattle.xb_io.proofs.memory.MemSinkSink.put.Goals as goal

pub returns-then-not-push_front-clause-front : goal.returns-then-not-push_front-clause-front
returns-then-not-push_front-clause-front c = (
  c.self.inside.taken.capacity - length c.self.inside.taken.octets,
  search
      rules,
)

pub returns-clause-front : goal.returns-clause-front
returns-clause-front c = (c.self.inside.taken.capacity - length c.self.inside.taken.octets, search rules)

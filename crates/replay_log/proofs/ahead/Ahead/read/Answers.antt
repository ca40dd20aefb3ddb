use Rattle.std.proofs.Common.{rules, ◌≡◌, ◌∙◌, sym, ap, subst, ◌<◌, length, Option, arith}
use Rattle.xb_io.specs.Causes.{Files}
use Rattle.replay_log.specs.Readings.{AreAhead}
use Rattle.replay_log.proofs.AheadLemmas.{are_ahead-read, ends-read}
use Rattle.std.specs.List.{slice_range}
use Rattle.replay_log.proofs.ahead.Ahead.read.Goals as goal

pub returns-in-Ok-clause-ahead : goal.returns-in-Ok-clause-ahead
returns-in-Ok-clause-ahead g c =
    subst (λ (h : Option Files). AreAhead h c.args.name.now c.args.at (slice_range c.read_block.new.block.items 0 c.in-Ok.count)) (sym c.in-Ok.ensures.same)
    (are_ahead-read _ c.args.name.now c.args.at c.read_block.new.block.items c.in-Ok.count c.in-Ok.ensures.read)

pub returns-in-Ok-clause-end : goal.returns-in-Ok-clause-end
returns-in-Ok-clause-end g c =
    λ log is nothing.
    let some : 0 < length c.read_block.new.block.items = omega (arith, c.in-Ok.ensures.size, c.self.invariant.2) in
    ends-read _ c.args.name.now c.args.at c.read_block.new.block.items c.in-Ok.count log c.in-Ok.ensures.read is some nothing

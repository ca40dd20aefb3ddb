use Rattle.std.proofs.Common.{◌≡◌, ◌∙◌, sym, ap, ◌+◌, ◌≤◌, drop, length, arith}
use Rattle.xb_words.proofs.ListLemmas.{length-slice_range}
use Rattle.replay_log.proofs.AheadLemmas.{range-skipped}
use Rattle.replay_log.proofs.ahead.Ahead.skip.Goals as goal

pub returns : goal.returns
returns c =
    let items = c.self.inside.block.items in
    let size = ap length (sym c.self.view_is) in
    let fits : c.self.inside.from + c.args.count ≤ c.self.inside.to =
    omega (arith, c.requires, size, length-slice_range items c.self.inside.from c.self.inside.to c.self.invariant.1, c.self.invariant.0) in
    range-skipped items c.self.inside.from c.self.inside.to c.args.count fits ∙ ap (drop c.args.count) c.self.view_is

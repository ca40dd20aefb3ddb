use Rattle.std.proofs.Common.{◌≡◌, length}
use Rattle.xb_wire.specs.declared.numbers.TheConstants.{MAX_MESSAGE}
use Rattle.spk_model.specs.Turning.{history}
use Rattle.xbgp_top.specs.Summaries.{counted_all, work_setup}
use Rattle.xbgp_top.proofs.work.play_all.Given as goal

-- the events that are left give what all of them give
abbrev pub invariant-events : goal.invariant-events
invariant-events g l =
    let all = history g.H.Host.RULE work_setup (g.H.Host.speaker l.fn.host) l.fn.work in
    let left = history g.H.Host.RULE work_setup (g.H.Host.speaker l.host) l.work in
    record {
      built : g.H.Host.built_from l.host ≡ work_setup;
      room : l.octets.capacity ≡ MAX_MESSAGE;
      speaker : left.speaker ≡ all.speaker;
      counts : counted_all l.counts left.outputs ≡ counted_all l.fn.counts all.outputs;
    }

-- the events that are left
abbrev pub decreases-events : goal.decreases-events
decreases-events g l = length l.work

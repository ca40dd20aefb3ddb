use Rattle.std.proofs.Common.{◌∙◌, sym}
use Rattle.spk_model.specs.Routing.{settle}
use Rattle.host_interned.proofs.FollowingLemmas.{does_first, does_peers}
use Rattle.host_interned.proofs.routing.Core.settle_set.Goals as goal

pub prefixes-preserved : goal.prefixes-preserved
prefixes-preserved c =
    let d = c.in_ok-settle.ensures in
    record {
      ready = d.ready;
      all = c.prefixes.invariant.all ∙ sym (does_peers _ c.prefixes.self c.settle.new.self d);
      comes = λ end rest. c.prefixes.invariant.comes end
          (does_first (λ setup. settle setup c.args.sessions.now) c.in-Some.prefix c.prefixes.prefixes
          c.pop_first.new.self
          c.prefixes.self c.settle.new.self end c.in-Some.ensures.first d rest);
    }

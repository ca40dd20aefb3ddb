use Rattle.std.proofs.Common.{◌∙◌, ◌++◌, ap, List, flat_map}
use Rattle.xb_words.specs.Table.{set_of}
use Rattle.xb_values.specs.Prefixes.{prefix_cmp}
use Rattle.spk_model.specs.Routing.{Tables}
use Rattle.host_listed.proofs.FollowingLemmas.{goes_weaker}
use Rattle.host_listed.proofs.WalkLemmas.{rescans, known_of}
use Rattle.host_listed.proofs.routing.Core.rescan.Goals as goal

pub returns : goal.returns
returns c =
    let a = c.args.self.now in
    goes_weaker c.settle_set.result _ _ a a c.settle_set.new.self
    (λ d. rescans a c.settle_set.new.self c.args.sessions.now c.in_ok-prefixes.prefixes
    (c.in_ok-prefixes.ensures
    ∙ ap (λ (ts : List Tables). set_of prefix_cmp (a.config.networks ++ flat_map known_of ts)) c.deref.ensures.value)
    d)
    c.settle_set.ensures

use Rattle.std.proofs.Common.{◌∙◌, ap, subst}
use Rattle.bgp_attr.specs.Routes.{Route}
use Rattle.xbgp_view.specs.Views.{Edited}
use Rattle.spk_model.specs.declared.host.Setup.{Setup}
use Rattle.spk_model.specs.Routing.{announce_one}
use Rattle.host_interned.specs.Meaning.{Does}
use Rattle.host_interned.proofs.FollowingLemmas.{does_first}
use Rattle.host_interned.proofs.routing.Core.announce_each.Goals as goal

pub prefixes-preserved : goal.prefixes-preserved
prefixes-preserved c =
    let a = c.args in
    let i = c.prefixes.invariant in
    let d = c.in_ok-announce_one.ensures.does in
    let here = subst (λ (r : Route). Does
    (λ setup t. announce_one setup a.sessions.now a.now r a.peer t c.in-Some.prefix)
    c.prefixes.self c.announce_one.new.self) (ap (λ (e : Edited). e.route) i.received) d in
    record {
      ready = d.ready;
      config = ap (λ (s : Setup). s.config) d.setup ∙ i.config;
      received = c.in_ok-announce_one.ensures.kept ∙ i.received;
      comes = λ end rest. i.comes end
          (does_first (λ setup. announce_one setup a.sessions.now a.now a.self.now.received.route a.peer)
          c.in-Some.prefix
          c.prefixes.rest c.next.new.self c.prefixes.self c.announce_one.new.self end c.in-Some.ensures.first here
          rest);
    }

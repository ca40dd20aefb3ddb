use Rattle.std.proofs.Common.{◌∙◌, sym, ap, length}
use Rattle.xbgp_config.specs.Configs.{Config}
use Rattle.spk_model.specs.Turning.{start_of, start_routing}
use Rattle.spk_session.proofs.StartLemmas.{start_sound, start_shown}
use Rattle.spk_session.proofs.host.SessionsHost.make.Goals as goal

pub invariant_of-result : goal.invariant_of-result
invariant_of-result g c =
    let setup = g.R.Routes.built_from c.in_ok-routes.routes in
    rw c.in_ok-new.ensures.ok
    (start_sound setup (g.R.Routes.routing c.in_ok-routes.routes) c.hold_of-hold.result c.count_of-count.result
    c.in_ok-links.links c.in_ok-frames.frames.items
    (c.count_of-count.ensures.count ∙ ap (λ (k : Config). length k.peers) c.config-2.ensures)
    c.count_of-count.ensures.few c.in_ok-links.ensures c.in_ok-frames.ensures)

pub returns-clause-speaker : goal.returns-clause-speaker
returns-clause-speaker g c =
    let setup = g.R.Routes.built_from c.in_ok-routes.routes in
    rw c.in_ok-new.ensures.ok
    (start_shown setup (g.R.Routes.routing c.in_ok-routes.routes) c.hold_of-hold.result c.count_of-count.result
    c.in_ok-links.links c.in_ok-frames.frames.items
    (c.count_of-count.ensures.count ∙ ap (λ (k : Config). length k.peers) c.config-2.ensures)
    (c.hold_of-hold.ensures ∙ ap (λ (k : Config). k.hold) c.config.ensures) c.in_ok-links.ensures
    c.in_ok-frames.ensures
    (c.in_ok-routes.ensures.routes ∙ ap start_routing (sym c.in_ok-routes.ensures.setup))
    ∙ ap start_of c.in_ok-routes.ensures.setup)

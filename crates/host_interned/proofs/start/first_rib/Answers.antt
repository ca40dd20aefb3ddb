use Rattle.std.proofs.Common.{◌∙◌, ap, length}
use Rattle.xbgp_config.specs.Configs.{Config}
use Rattle.host_interned.proofs.StartLemmas.{is_first}
use Rattle.host_interned.proofs.start.first_rib.Goals as goal

pub returns : goal.returns
returns c =
    is_first c.args.config.now c.in_ok-rib.rib c.set_networks.new.rib _ _ _ c.in_ok-own.ensures.route
    (c.len.ensures ∙ ap (λ (k : Config). length k.peers) c.config.view_is)
    (ap (λ (k : Config). k.networks) c.config.view_is) c.in_ok-rib.ensures c.in_ok-set_networks.ensures

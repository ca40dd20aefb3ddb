use Rattle.std.proofs.Common.{◌∙◌, refl, [], ap, length, ℕ, replicate}
use Rattle.xbgp_config.specs.Configs.{Config}
use Rattle.spk_model.specs.Routing.{no_tables}
use Rattle.host_listed.specs.Starting.{with_networks}
use Rattle.host_listed.proofs.StartLemmas.{are_first}
use Rattle.host_listed.proofs.start.FirstTables.make.Goals as goal

pub returns : goal.returns
returns c =
    are_first c.args.config.now _ c.in_ok-own.own c.in_ok-own.ensures refl
    (c.in_ok-best.ensures ∙ ap (λ (k : Config). with_networks c.in_ok-own.own.route [] k.networks) c.config.view_is)
    (c.in_ok-peers.ensures
    ∙ ap (λ (n : ℕ). replicate n no_tables)
    (c.len.ensures ∙ ap (λ (k : Config). length k.peers) c.config.view_is))

-- The routes before the first event (for `Core::make`).
use Rattle.std.specs.Prelude.{◌≡◌, List, [], fold, length, replicate}
use Rattle.xb_words.specs.Table.{with_value}
use Rattle.xb_values.specs.Prefixes.{Prefix, prefix_cmp}
use Rattle.bgp_attr.specs.Routes.{Route}
use Rattle.xbgp_config.specs.Configs.{Config}
use Rattle.spk_model.specs.declared.host.Setup.{Setup}
use Rattle.spk_model.specs.Sources.{local_route}
use Rattle.spk_model.specs.Routing.{Chosen, no_tables}
use Rattle.spk_model.specs.Turning.{start_routing}
use Rattle.host_interned.specs.declared.routing.Core.{Core}
use Rattle.host_interned.specs.Ribs.{RibView, Shows}
use Rattle.host_interned.specs.Meaning.{IsReady, setup_of, routing_of}

-- best routes, after each of some networks got the speaker's own route
abbrev pub with_networks : Route → List (Prefix × Chosen) → List Prefix → List (Prefix × Chosen)
with_networks own best networks =
    fold (λ b p. with_value prefix_cmp b p (record { source = 0; route = own })) best networks

-- a rib before the first event: the local networks are best, and the peers sent nothing
abbrev pub IsFirst : Config → RibView → Type 0
IsFirst config r =
    Shows (local_route config) (with_networks (local_route config) [] config.networks)
    (replicate (length config.peers) no_tables) r

-- a core of a setup before the first event
pub record IsStarted (setup : Setup) (c : Core) : Type 0 where
  pub ready : IsReady c
  pub made_of : setup_of c ≡ setup
  pub routes : routing_of c ≡ start_routing setup

use Rattle.std.proofs.Common.{◌≡◌, subst}
use Rattle.std.specs.Prelude.{IfOk}
use Rattle.bgp_attr.specs.Routes.{Route}
use Rattle.spk_model.specs.Routing.{Chosen}
use Rattle.host_listed.proofs.StartLemmas.{own_chosen}
use Rattle.host_listed.proofs.start.own_route.Goals as goal

pub returns : goal.returns
returns c =
    subst (λ (r : Route). IfOk c.copy_of.result (λ (b : Chosen). b ≡ own_chosen r)) c.in_ok-route.ensures.route
    c.copy_of.ensures

use Rattle.std.proofs.Common.{rules, ◌≡◌, ◌∙◌, ap}
use Rattle.bgp_attr.specs.Routes.{canon, route_of}
use Rattle.xbgp_view.proofs.ReadingLemmas.{route_of-canon}
use Rattle.spk_routes.proofs.section.copy_section.Goals as goal

pub returns-clause-route : goal.returns-clause-route
returns-clause-route c =
    let written : c.section.new.out.octets ≡ canon c.args.route.now.route = search rules in
    ap route_of written ∙ route_of-canon c.args.route.now.route c.see_shape.ensures

use Rattle.std.proofs.Common.{◌∙◌, ap}
use Rattle.xb_values.specs.Buffers.{Buffer}
use Rattle.xbgp_view.proofs.EditsLemmas.{IsCanonical-spelled}
use Rattle.xbgp_view.proofs.view.write_section.Goals as goal

pub returns-in-Some-clause-canonical : goal.returns-in-Some-clause-canonical
returns-in-Some-clause-canonical g c =
    (IsCanonical-spelled c.replace.new.self.octets (g.R.RouteView.route c.args.view.now) c.in-Some.ensures.shape
    (ap (λ (b : Buffer). b.octets) c.replace.ensures ∙ c.in-Some.ensures.value)).0

pub returns-in-Some-clause-route : goal.returns-in-Some-clause-route
returns-in-Some-clause-route g c =
    (IsCanonical-spelled c.replace.new.self.octets (g.R.RouteView.route c.args.view.now) c.in-Some.ensures.shape
    (ap (λ (b : Buffer). b.octets) c.replace.ensures ∙ c.in-Some.ensures.value)).1

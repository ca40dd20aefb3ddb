use Rattle.std.proofs.Common.{◌∙◌, ap}
use Rattle.xb_values.specs.Buffers.{Buffer}
use Rattle.xbgp_points.specs.Points.{Called, encode}
use Rattle.spk_routes.proofs.FaultLemmas.{given_faultless}
use Rattle.spk_routes.proofs.export.encode_route.Goals as goal

pub write_form-requires-clause-faultless : goal.write_form-requires-clause-faultless
write_form-requires-clause-faultless g c =
    let e = c.args.engine.now in
    let left : Called =
    encode e.manifest e.local e.engine c.args.peer.now c.args.source.now (g.R.RouteView.route c.args.best.now)
    c.args.route.now.route in
    given_faultless left c.args.route.now.route c.encode-outcome.result c.as_slice-2.result.now
    c.as_slice-3.result.now c.given_section-section.result.now
    c.encode-outcome.ensures.answers.outcome
    (c.as_slice-2.ensures.value ∙ ap (λ (b : Buffer). b.octets) c.encode-outcome.ensures.section)
    c.encode-outcome.ensures.sendable
    (c.as_slice-3.ensures.value ∙ ap (λ (b : Buffer). b.octets) c.native_section.ensures)
    c.requires.shape c.requires.faultless c.given_section-section.ensures

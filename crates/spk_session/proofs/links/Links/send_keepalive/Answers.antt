use Rattle.std.proofs.Common.{◌∙◌, ap}
use Rattle.std.proofs.lemmas.Result.{on_ok_weaker}
use Rattle.xb_values.specs.Buffers.{Buffer}
use Rattle.spk_session.specs.Acting.{sent_to}
use Rattle.spk_session.proofs.links.Links.send_keepalive.Goals as goal

pub returns : goal.returns
returns c =
    let l = c.args.self.now in
    on_ok_weaker c.send_written.result
    (λ e. e ∙ ap (λ (m : Buffer). sent_to c.args.peer m.octets (record l { message = m }))
    c.write_keepalive.ensures.written)
    c.send_written.ensures

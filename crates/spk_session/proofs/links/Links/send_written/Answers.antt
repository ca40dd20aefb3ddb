use Rattle.std.proofs.Common.{◌∙◌, ap, List, ℕ, ◌++◌}
use Rattle.std.proofs.lemmas.Result.{on_ok_weaker}
use Rattle.spk_model.specs.Turning.{put}
use Rattle.spk_session.proofs.LinkLemmas.{sent_after_rest}
use Rattle.spk_session.proofs.links.Links.send_written.Goals as goal

-- src/links.rt:91:5
pub returns : goal.returns
returns c =
    let l = c.args.self.now in
    let p = c.args.peer in
    on_ok_weaker c.put-2.result
    (λ e. sent_after_rest l p c.index_mut-rest.result.now c.clear.new.self (l.message).octets c.put.new.outputs
    c.put-2.new.outputs c.requires.even c.requires.peer c.index_mut-rest.ensures.value c.clear.ensures
    (c.in_ok-put.ensures ∙ ap (λ (x : List ℕ). l.outputs ++ put p x) c.as_slice.ensures)
    (e ∙ ap (λ (x : List ℕ). c.put.new.outputs ++ put p x) c.as_slice-2.ensures.value))
    c.put-2.ensures

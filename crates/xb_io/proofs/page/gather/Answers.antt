use Rattle.std.proofs.Common.{rules, ◌≡◌}
use Rattle.xb_io.proofs.PageLemmas.{gathers_after_put, gathers_failed_put}
use Rattle.xb_io.proofs.page.gather.Goals as goal

pub returns-in_err-put_text : goal.returns-in_err-put_text
returns-in_err-put_text g c =
    let same : c.as_slice.result.now ≡ c.args.page.now.octets = search rules in
    gathers_failed_put _ _ _ _ c.args.page.now.octets c.as_slice.result.now _ c.args.text.now
    c.in_err-put_text.field-0.0 c.from_residual.result same
    c.from_residual.ensures.1 c.in_err-put_text.ensures

pub returns : goal.returns
returns g c =
    let same : c.as_slice.result.now ≡ c.args.page.now.octets = search rules in
    gathers_after_put _ _ _ _ _ c.args.page.now.octets c.as_slice.result.now _ c.args.text.now _ same
    c.in_ok-put_text.ensures c.on_new_page.ensures

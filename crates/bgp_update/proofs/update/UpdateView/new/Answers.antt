use Rattle.std.proofs.Common.{rules, ◌≡◌, ◌+◌, ◌≤◌, length, arith}
use Rattle.xb_words.specs.Octets.{two_at}
use Rattle.bgp_update.proofs.UpdateLemmas.{parts_join}
use Rattle.bgp_update.proofs.update.UpdateView.new.Goals as goal

pub returns-clause-joins : goal.returns-clause-joins
returns-clause-joins c =
    let w = c.from-withdrawn_len.result in
    let a = c.from-section_len.result in
    let w_is : two_at c.args.body.now 0 ≡ w = search rules in
    let a_is : two_at c.args.body.now (2 + w) ≡ a = search rules in
    let fits : 4 + w + a ≤ length c.args.body.now = omega arith in
    rw c.split_at.ensures.back (parts_join c.args.body.now w a w_is a_is fits)

use Rattle.std.proofs.Common.{◌≤◌, length, sym, arith}
use Rattle.xb_wire.specs.Views.{notice_view}
use Rattle.bgp_attr.specs.Paths.{width_of}
use Rattle.bgp_check.proofs.JudgementLemmas.{data_le-first_check}
use Rattle.bgp_check.proofs.section.judged_section.Goals as goal

pub returns-in-Some-first_fault-clause-data : goal.returns-in-Some-first_fault-clause-data
returns-in-Some-first_fault-clause-data c =
    let notice = notice_view c.in-Some-first_fault.notice in
    let within : length notice.extra ≤ length c.args.section.now = data_le-first_check (width_of c.args.wide) c.args.section.now notice (sym c.in-Some-first_fault.ensures) in
    omega (arith, within)

use Rattle.std.proofs.Common.{◌≤◌, length, subst, ◌∙◌, ◌+◌, ◌++◌, ℕ, List, ap, sym, drop, flat_map, arith}
use Rattle.std.specs.List.{slice_get}
use Rattle.xb_domain.specs.declared.point.Point.{Point}
use Rattle.xbgp_manifest.specs.declared.entries.ProgramEntry.{ProgramEntry}
use Rattle.xbgp_points.specs.Chains.{numbered}
use Rattle.spk_model.specs.Names.{Named}
use Rattle.spk_model.specs.Reports.{fault_lines, numbered_fault_lines, program_fault_lines}
use Rattle.spk_model.proofs.GatherLemmas.{gathered_line, gathered_all, gathers_no_line}
use Rattle.spk_model.proofs.PrintLemmas.{lines_of_programs, lines_of_no_programs, made_at, past_all}
use Rattle.spk_model.proofs.report.print_faults.Goals as goal

pub overflow_cast-i : goal.overflow_cast-i
overflow_cast-i g c = omega (arith, c.programs-i-end.ensures.few, c.programs-test.true)

pub returns-in_err-print_program_faults : goal.returns-in_err-print_program_faults
returns-in_err-print_program_faults g c =
    let s = g.H.Host.speaker c.args.host.now in
    let manifest = (g.H.Host.built_from c.args.host.now).manifest in
    let i = c.programs.i in
    let named : List ℕ × Point = (c.program-point.result.0.now, c.program-point.result.1) in
    let rest = flat_map (numbered_fault_lines s) (drop (i + 1) (numbered 0 manifest.programs)) in
    let program = made_at (λ p. (p.name, p.point)) manifest.programs i named
    (ap (λ (n : Named). slice_get n.programs i) (sym c.requires) ∙ c.program-point.ensures) in
    gathers_no_line g.K.Sink.took g.K.Sink.faults _ _ _ c.args.page.now (fault_lines manifest s) _
    c.print_program_faults.new.page
    (program_fault_lines s i named.0 named.1) (flat_map (numbered_fault_lines s)
    (drop i (numbered 0 manifest.programs))) rest
    c.in_err-print_program_faults.field-0.0 c.from_residual.result
    (lines_of_programs s manifest.programs i program.0 program.1
    ∙ ap (λ (n : List ℕ × Point). program_fault_lines s i n.0 n.1 ++ rest) program.2)
    c.from_residual.ensures.1 c.programs.invariant c.in_err-print_program_faults.ensures

pub programs-preserved : goal.programs-preserved
programs-preserved g c =
    let s = g.H.Host.speaker c.args.host.now in
    let manifest = (g.H.Host.built_from c.args.host.now).manifest in
    let i = c.programs.i in
    let named : List ℕ × Point = (c.program-point.result.0.now, c.program-point.result.1) in
    let rest = flat_map (numbered_fault_lines s) (drop (i + 1) (numbered 0 manifest.programs)) in
    let program = made_at (λ p. (p.name, p.point)) manifest.programs i named
    (ap (λ (n : Named). slice_get n.programs i) (sym c.requires) ∙ c.program-point.ensures) in
    gathered_line g.K.Sink.took g.K.Sink.faults _ _ _ _ _ _ (program_fault_lines s i named.0 named.1)
    (flat_map (numbered_fault_lines s) (drop i (numbered 0 manifest.programs))) rest
    (lines_of_programs s manifest.programs i program.0 program.1
    ∙ ap (λ (n : List ℕ × Point). program_fault_lines s i n.0 n.1 ++ rest) program.2)
    c.programs.invariant c.in_ok-print_program_faults.ensures

pub returns : goal.returns
returns g c =
    let s = g.H.Host.speaker c.args.host.now in
    let manifest = (g.H.Host.built_from c.args.host.now).manifest in
    let pair : ProgramEntry → List ℕ × Point = λ p. (p.name, p.point) in
    gathered_all g.K.Sink.took g.K.Sink.faults _ _ _ _ (flat_map (numbered_fault_lines s)
    (drop c.programs.i (numbered 0 manifest.programs)))
    (lines_of_no_programs s manifest.programs c.programs.i
    (past_all pair manifest.programs c.programs.i
    (subst (λ (n : Named). length n.programs ≤ c.programs.i) c.requires
    (subst (λ (n : ℕ). n ≤ c.programs.i) c.programs-i-end.ensures.count c.programs-test.false))))
    c.programs.invariant

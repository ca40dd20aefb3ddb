use Rattle.std.proofs.Common.{◌∙◌, ap, map}
use Rattle.spk_model.specs.declared.names.ProgramName.{ProgramName}
use Rattle.spk_model.specs.Names.{program_view}
use Rattle.spk_model.proofs.PrintLemmas.{made_next}
use Rattle.spk_model.proofs.names.program_names.Goals as goal

pub programs-preserved : goal.programs-preserved
programs-preserved c =
    let program = c.get-program.result.now in
    let made : ProgramName = record { name = c.in_ok-from_str.field-0; point = program.point } in
    ap (map program_view) c.in_ok-push.ensures.items
    ∙ made_next program_view (λ p. (p.name, p.point)) c.programs.names.items c.args.programs.now c.programs.i made
    program c.programs.invariant c.get-program.ensures
    (ap (λ n. (n, program.point)) (c.in_ok-from_str.ensures.ok ∙ c.as_str.ensures))

use Rattle.std.proofs.Common.{◌≡◌, ◌+◌, ◌++◌, ◌∷◌, [], refl, ap, sym, ◌∙◌, arith}
use Rattle.std.specs.Prelude.{Err}
use Rattle.std.specs.List.{list_any}
use Rattle.std.specs.Str.{bytes_eq}
use Rattle.toml.specs.View.{view}
use Rattle.xb_domain.specs.declared.bad.BadKind.TheVariants.{Double}
use Rattle.xb_fields.specs.Fields.{judged_entries, fault_at}
use Rattle.xb_fields.proofs.OutcomeLemmas.{gives-error}
use Rattle.xb_fields.proofs.StepLemmas.{judged_from-more, judged_from-bad}
use Rattle.xbgp_manifest.specs.declared.entries.ProgramEntry.{ProgramEntry}
use Rattle.xbgp_manifest.specs.Manifests.{in_slot, program_entry, named_program}
use Rattle.xbgp_manifest.specs.Outcomes.{manifest_fault}
use Rattle.xbgp_manifest.specs.Views.{program_view}
use Rattle.xbgp_manifest.proofs.NameLemmas.{is_there-insert, is_new-insert, list_any-names, map-insert}
use Rattle.xbgp_manifest.proofs.OutcomeLemmas.{gives_manifest-field_error}
use Rattle.xbgp_manifest.proofs.ManifestLemmas.{named_program-new, named_program-double, named_program-bad}
use Rattle.xbgp_manifest.proofs.ManifestLemmas.{program_entry-named, program_entry-bad, loaded_program-same}
use Rattle.xbgp_manifest.proofs.programs.read_programs.Goals as goal

pub loop-i-init : goal.loop-i-init
unfolding judged_entries
loop-i-init c = record { rest = rw c.new-items.ensures.items; names = rw (c.new-names.ensures.empty, c.new-items.ensures.items) refl }

pub returns-in_err-fields : goal.returns-in_err-fields
returns-in_err-fields c =
    gives_manifest-field_error c.from_residual.result c.in_err-fields.field-0.0 _ _ c.from_residual.ensures.1 c.in_err-fields.ensures
    (λ bad below.
    judged_from-bad program_entry c.args.values.now c.loop-i.i c.index-values-i.result c.loop-i.items.items (in_slot 0 bad) _ (omega arith) c.index-values-i.is
    (program_entry-bad (c.loop-i.i + 1) c.loop-i.items.items (view c.index-values-i.result) bad
    (named_program-bad (c.loop-i.i + 1) c.loop-i.items.items (view c.index-values-i.result) bad below))
    c.loop-i.invariant.rest)

pub returns-then-not-branch : goal.returns-then-not-branch
returns-then-not-branch c =
    let fields : ProgramEntry = program_view c.in_ok-fields.fields in
    let met = is_there-insert c.in_ok-insert.field-0 (list_any (λ k. bytes_eq c.in_ok-fields.fields.name.now k.now) c.loop-i.names.keys) c.in_ok-insert.ensures.added c.if-not-branch.true in
    let doubled = sym (list_any-names (λ p. p.name) c.in_ok-fields.fields.name c.loop-i.names.keys c.loop-i.items.items c.loop-i.invariant.names) ∙ met in
    rw c.into.ensures
    (judged_from-bad program_entry c.args.values.now c.loop-i.i c.index-values-i.result c.loop-i.items.items (in_slot 0 c.fault.result) _ (omega arith) c.index-values-i.is
    (program_entry-bad (c.loop-i.i + 1) c.loop-i.items.items (view c.index-values-i.result) c.fault.result
    (named_program-double (c.loop-i.i + 1) c.loop-i.items.items (view c.index-values-i.result) fields c.in_ok-fields.ensures doubled ∙ ap Err (sym (c.fault.ensures ∙ ap (λ at. fault_at at Double) c.new-at.ensures))))
    c.loop-i.invariant.rest)

pub returns-in_err-load_program : goal.returns-in_err-load_program
returns-in_err-load_program c =
    let fields : ProgramEntry = program_view c.in_ok-fields.fields in
    let new = is_new-insert c.in_ok-insert.field-0 (list_any (λ k. bytes_eq c.in_ok-fields.fields.name.now k.now) c.loop-i.names.keys) c.in_ok-insert.ensures.added c.if-not-branch.false in
    let none = sym (list_any-names (λ p. p.name) c.in_ok-fields.fields.name c.loop-i.names.keys c.loop-i.items.items c.loop-i.invariant.names) ∙ new in
    let named = named_program-new (c.loop-i.i + 1) c.loop-i.items.items (view c.index-values-i.result) fields c.in_ok-fields.ensures none in
    gives-error manifest_fault c.from_residual-in_err-load_program.result c.in_err-load_program.field-0.0 _ _ c.from_residual-in_err-load_program.ensures.1 c.in_err-load_program.ensures
    (λ bad below.
    judged_from-bad program_entry c.args.values.now c.loop-i.i c.index-values-i.result c.loop-i.items.items bad _ (omega arith) c.index-values-i.is
    (program_entry-named (c.loop-i.i + 1) c.loop-i.items.items (view c.index-values-i.result) fields named ∙ below)
    c.loop-i.invariant.rest)

pub loop-i-preserved : goal.loop-i-preserved
loop-i-preserved c =
    let fields : ProgramEntry = program_view c.in_ok-fields.fields in
    let entry : ProgramEntry = c.in_ok-load_program.field-0 in
    let same = loaded_program-same (c.loop-i.i + 1) fields entry c.in_ok-load_program.ensures in
    let pushed : c.push.new.self.items ≡ c.loop-i.items.items ++ entry ∷ [] = c.in_ok-push.ensures.items in
    let new = is_new-insert c.in_ok-insert.field-0 (list_any (λ k. bytes_eq c.in_ok-fields.fields.name.now k.now) c.loop-i.names.keys) c.in_ok-insert.ensures.added c.if-not-branch.false in
    let none = sym (list_any-names (λ p. p.name) c.in_ok-fields.fields.name c.loop-i.names.keys c.loop-i.items.items c.loop-i.invariant.names) ∙ new in
    let named = named_program-new (c.loop-i.i + 1) c.loop-i.items.items (view c.index-values-i.result) fields c.in_ok-fields.ensures none in
    record {
      rest =
          rw pushed
          (judged_from-more program_entry c.args.values.now c.loop-i.i c.index-values-i.result c.loop-i.items.items entry _ (omega arith) c.index-values-i.is
          (program_entry-named (c.loop-i.i + 1) c.loop-i.items.items (view c.index-values-i.result) fields named ∙ c.in_ok-load_program.ensures)
          c.loop-i.invariant.rest);
      names =
          rw pushed
          (map-insert (λ p. p.name) c.in_ok-fields.fields.name c.loop-i.names.keys c.loop-i.items.items c.loop-i.invariant.names c.insert.new.self.keys entry c.in_ok-insert.ensures.keys new (ap (λ p. p.name) same));
    }

use Rattle.std.proofs.Common.{◌≡◌, ◌+◌, ◌++◌, ◌∷◌, [], refl, ap, sym, ◌∙◌, arith}
use Rattle.std.specs.Prelude.{Err}
use Rattle.std.specs.List.{list_any}
use Rattle.std.specs.Str.{bytes_eq}
use Rattle.toml.specs.View.{view}
use Rattle.xb_domain.specs.declared.bad.BadKind.TheVariants.{Double}
use Rattle.xb_fields.specs.Fields.{judged_entries, fault_at}
use Rattle.xb_fields.proofs.StepLemmas.{judged_from-more, judged_from-bad}
use Rattle.xbgp_manifest.specs.declared.entries.MapEntry.{MapEntry}
use Rattle.xbgp_manifest.specs.Views.{map_view}
use Rattle.xbgp_manifest.specs.Manifests.{map_entry}
use Rattle.xbgp_manifest.proofs.NameLemmas.{is_there-insert, is_new-insert, list_any-names, map-insert}
use Rattle.xbgp_manifest.proofs.ManifestLemmas.{map_entry-new, map_entry-double}
use Rattle.xbgp_manifest.proofs.maps.read_maps.Goals as goal

pub loop-i-init : goal.loop-i-init
unfolding judged_entries
loop-i-init c = record { rest = rw c.new-items.ensures.items; names = rw (c.new-names.ensures.empty, c.new-items.ensures.items) refl }

pub returns-then-not-branch : goal.returns-then-not-branch
returns-then-not-branch c =
    let entry : MapEntry = map_view c.in_ok-fields.fields in
    let met = is_there-insert c.in_ok-insert.field-0 (list_any (λ k. bytes_eq c.in_ok-fields.fields.name.now k.now) c.loop-i.names.keys) c.in_ok-insert.ensures.added c.if-not-branch.true in
    let doubled = sym (list_any-names (λ m. m.name) c.in_ok-fields.fields.name c.loop-i.names.keys c.loop-i.items.items c.loop-i.invariant.names) ∙ met in
    rw c.into.ensures
    (judged_from-bad map_entry c.args.values.now c.loop-i.i c.index-values-i.result c.loop-i.items.items c.fault.result _ (omega arith) c.index-values-i.is
    (map_entry-double (c.loop-i.i + 1) c.loop-i.items.items (view c.index-values-i.result) entry (sym c.in_ok-fields.ensures) doubled ∙ ap Err (sym (c.fault.ensures ∙ ap (λ at. fault_at at Double) c.new-at.ensures)))
    c.loop-i.invariant.rest)

pub loop-i-preserved : goal.loop-i-preserved
loop-i-preserved c =
    let entry : MapEntry = map_view c.in_ok-fields.fields in
    let pushed : c.push.new.self.items ≡ c.loop-i.items.items ++ entry ∷ [] = rw (c.in_ok-push.ensures.items, c.in_ok-of.ensures) refl in
    let new = is_new-insert c.in_ok-insert.field-0 (list_any (λ k. bytes_eq c.in_ok-fields.fields.name.now k.now) c.loop-i.names.keys) c.in_ok-insert.ensures.added c.if-not-branch.false in
    let none = sym (list_any-names (λ m. m.name) c.in_ok-fields.fields.name c.loop-i.names.keys c.loop-i.items.items c.loop-i.invariant.names) ∙ new in
    record {
      rest =
          rw pushed
          (judged_from-more map_entry c.args.values.now c.loop-i.i c.index-values-i.result c.loop-i.items.items entry _ (omega arith) c.index-values-i.is
          (map_entry-new (c.loop-i.i + 1) c.loop-i.items.items (view c.index-values-i.result) entry (sym c.in_ok-fields.ensures) none)
          c.loop-i.invariant.rest);
      names = rw pushed (map-insert (λ m. m.name) c.in_ok-fields.fields.name c.loop-i.names.keys c.loop-i.items.items c.loop-i.invariant.names c.insert.new.self.keys entry c.in_ok-insert.ensures.keys new refl);
    }

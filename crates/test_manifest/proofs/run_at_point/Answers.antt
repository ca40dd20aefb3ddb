use Rattle.std.proofs.Common.{◌≡◌, ℕ, ◌<◌, length, Some, subst, sym, ap, ◌∙◌}
use Rattle.std.proofs.lemmas.Option.{slice_get_within, get_or_from_slice_get}
use Rattle.std.specs.Prelude.{slice_get}
use Rattle.xb_domain.specs.Points.{helper_allowed}
use Rattle.bpf_insn.proofs.LoadLemmas.{CallsOnly-same}
use Rattle.xbgp_manifest.specs.Manifests.{Manifest, IsProgram}
use Rattle.xbgp_manifest.specs.declared.entries.ProgramEntry.{ProgramEntry}
use Rattle.test_manifest.proofs.run_at_point.Goals as goal

pub run-requires : goal.run-requires
run-requires g c =
    let p : ProgramEntry = c.get-program.result.now in
    let is_there = c.get-program.ensures in
    let program : IsProgram p =
    subst IsProgram (get_or_from_slice_get c.manifest.inside.programs c.args.i p p is_there)
    (c.manifest.invariant.programs c.args.i p (slice_get_within c.manifest.inside.programs c.args.i p is_there)) in
    let at = ap (λ (m : Manifest). slice_get m.programs c.args.i) (sym c.manifest.view_is) ∙ is_there in
    CallsOnly-same (helper_allowed p.point) (g.H.Helpers.allowed (g.H.Helpers.state c.args.world.now)) p.code
    (λ n. sym (c.requires.helpers p n at)) program.calls

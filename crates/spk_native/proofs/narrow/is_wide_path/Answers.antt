use Rattle.std.proofs.Common.{sym, ap, subst, ◌∙◌}
use Rattle.std.specs.List.{list_any, AllByRecursion}
use Rattle.bgp_path.specs.Parts.{PathWalk}
use Rattle.spk_native.proofs.NarrowLemmas.{HasOctets, HasOctets-parts, has_wide, list_any-has_wide}
use Rattle.spk_native.proofs.narrow.is_wide_path.Goals as goal

pub segments-init : goal.segments-init
segments-init c =
    let v = c.args.value.now in
    let coming = ap (λ (w : PathWalk). w.coming) c.in-Some.ensures.whole in
    record {
      octets = subst (AllByRecursion HasOctets) (sym coming) (HasOctets-parts v c.requires.path);
      same = ap (list_any has_wide) coming ∙ list_any-has_wide v;
    }

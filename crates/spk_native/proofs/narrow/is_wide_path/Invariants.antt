use Rattle.std.proofs.Common.{◌≡◌, length}
use Rattle.std.specs.List.{list_any, AllByRecursion}
use Rattle.spk_native.specs.Receipt.{is_wide_path}
use Rattle.spk_native.proofs.NarrowLemmas.{HasOctets, has_wide}
use Rattle.spk_native.proofs.narrow.is_wide_path.Given as goal

abbrev pub invariant-segments : goal.invariant-segments
invariant-segments l = record {
  octets : AllByRecursion HasOctets l.walk.coming;
  same : list_any has_wide l.walk.coming ≡ is_wide_path l.value;
}

abbrev pub decreases-segments : goal.decreases-segments
decreases-segments l = length l.walk.coming

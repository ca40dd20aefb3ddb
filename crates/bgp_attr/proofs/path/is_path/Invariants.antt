use Rattle.std.proofs.Common.{◌≡◌, length}
use Rattle.xb_words.specs.Cut.{cut}
use Rattle.bgp_attr.specs.Paths.{segment_size}
use Rattle.bgp_attr.proofs.path.is_path.Given as goal

abbrev pub invariant-segments : goal.invariant-segments
invariant-segments l = (cut (segment_size l.width) l.rest).rest ≡ (cut (segment_size l.width) l.value).rest

abbrev pub decreases-segments : goal.decreases-segments
decreases-segments l = length l.rest

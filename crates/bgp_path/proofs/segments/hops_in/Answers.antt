use Rattle.std.proofs.Common.{arith}
use Rattle.bgp_attr.specs.Paths.{width_of}
use Rattle.bgp_path.specs.Views.{segment_view}
use Rattle.bgp_path.proofs.SplitsLemmas.{counted_le, hops-split}
use Rattle.bgp_path.proofs.segments.hops_in.Goals as goal

pub segments-preserved : goal.segments-preserved
segments-preserved c =
    let w = width_of c.args.wide in
    let split = c.in-Some.ensures.splits in
    let counted = hops-split w c.segments.rest.now (segment_view c.in-Some.segment) c.in-Some.after.now split in
    record {
      ok = split.ok;
      fits = omega (arith, c.hops_of-hops.ensures, counted_le c.in-Some.segment.set c.in-Some.segment.count, c.in-Some.ensures.shorter, c.segments.invariant.fits);
      counted = omega (arith, counted, c.hops_of-hops.ensures, c.segments.invariant.counted);
    }

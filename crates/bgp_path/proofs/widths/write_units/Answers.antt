use Rattle.std.proofs.Common.{ap, ◌∙◌, ◌+◌}
use Rattle.bgp_attr.specs.Paths.{width_of}
use Rattle.bgp_path.specs.Parts.{part_segment}
use Rattle.bgp_path.specs.Views.{segment_view}
use Rattle.bgp_path.specs.Units.{other_segment, other_path}
use Rattle.bgp_path.proofs.UnitsLemmas.{other_path-split}
use Rattle.bgp_path.proofs.WritingLemmas.{IsWriting-more}
use Rattle.bgp_path.proofs.widths.write_units.Goals as goal

pub segments-preserved : goal.segments-preserved
segments-preserved c =
    let wide = c.args.wide in
    let segment = segment_view c.in-Some.segment in
    let more = c.next.new.self.coming in
    record {
      wide = c.next.ensures.wide ∙ c.segments.invariant.wide;
      writing =
          IsWriting-more _ _ _ _ c.write_segment.new.out _ (c.segments.at + c.other_len-at.result) _ (other_segment wide (part_segment (width_of wide) segment)) (other_path wide more)
          c.segments.invariant.writing
          (other_path-split wide c.segments.walk.wide segment c.segments.walk.coming more c.segments.invariant.wide c.in-Some.ensures.item)
          c.write_segment.ensures
          (ap (λ n. c.segments.at + n) c.other_len-at.ensures);
    }

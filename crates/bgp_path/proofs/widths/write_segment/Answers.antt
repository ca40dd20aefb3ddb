use Rattle.std.proofs.Common.{refl, ap, sym, ◌∙◌, ◌+◌, ◌≤◌, [], ◌∷◌, length, flat_map, arith}
use Rattle.bgp_attr.specs.Paths.{numbers_of, width_of}
use Rattle.bgp_path.specs.Views.{segment_view}
use Rattle.bgp_path.specs.Parts.{part_segment}
use Rattle.bgp_path.specs.Units.{other_octets, other_segment}
use Rattle.bgp_path.proofs.UnitsLemmas.{length-other_segment, length-numbers_in_other, other_segment-part}
use Rattle.bgp_path.proofs.WritingLemmas.{overwritten-joined}
use Rattle.bgp_path.proofs.widths.write_segment.Goals as goal

pub write_in_other_width-requires-clause-room : goal.write_in_other_width-requires-clause-room
write_in_other_width-requires-clause-room c =
    omega (arith, c.requires.room, length-other_segment c.args.wide (segment_view c.args.segment.now), c.copy_at.auto.out)

pub returns : goal.returns
returns c =
    let wide = c.args.wide in
    let segment = segment_view c.args.segment.now in
    let numbers = flat_map (other_octets wide) (numbers_of (width_of wide) segment.count segment.octets) in
    let fits : c.args.at + 2 + length numbers ≤ length c.args.out.now =
    omega (arith, c.requires.room, length-other_segment wide segment, length-numbers_in_other wide segment.count segment.octets) in
    overwritten-joined c.args.at (c.args.at + 2) (c.kind_of.result ∷ segment.count ∷ []) numbers (other_segment wide (part_segment (width_of wide) segment)) c.args.out.now c.copy_at.new.out
    c.write_in_other_width.new.out c.copy_at.ensures c.write_in_other_width.ensures refl fits
    (ap (λ k. k ∷ segment.count ∷ numbers) c.kind_of.ensures ∙ sym (other_segment-part wide segment))

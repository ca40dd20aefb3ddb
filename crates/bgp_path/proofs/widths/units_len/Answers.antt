use Rattle.std.proofs.Common.{ap, ◌+◌, ◌*◌, ◌≤◌, length, arith, rules}
use Rattle.std.proofs.lemmas.List.{length-append}
use Rattle.bgp_attr.specs.Paths.{width_of}
use Rattle.bgp_path.specs.Parts.{part_segment}
use Rattle.bgp_path.specs.Views.{segment_view}
use Rattle.bgp_path.specs.Units.{other_segment, other_path}
use Rattle.bgp_path.proofs.UnitsLemmas.{length-units_octets, other_path-split}
use Rattle.bgp_path.proofs.widths.units_len.Goals as goal

pub overflow_add-len : goal.overflow_add-len
overflow_add-len c =
    let wide = c.args.wide in
    let segment = segment_view c.in-Some.segment in
    let more = c.next.new.self.coming in
    let split = ap length (other_path-split wide c.segments.walk.wide segment c.segments.walk.coming more c.segments.invariant.wide c.in-Some.ensures.item) in
    let parts = length-append (other_segment wide (part_segment (width_of wide) segment)) (other_path wide more) in
    let bound = length-units_octets wide c.args.units c.args.path.now c.requires in
    let within : c.segments.len + c.other_len-len.result ≤ 2 * length c.args.path.now = omega (arith, split, parts, bound, c.segments.invariant.sum, c.other_len-len.ensures) in
    search (rules, within)

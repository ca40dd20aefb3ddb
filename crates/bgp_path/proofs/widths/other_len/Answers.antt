use Rattle.std.proofs.Common.{sym, ap, ◌∙◌, ◌+◌, ◌*◌, not}
use Rattle.bgp_attr.specs.Paths.{width_of}
use Rattle.bgp_path.specs.Views.{segment_view}
use Rattle.bgp_path.proofs.UnitsLemmas.{length-other_segment}
use Rattle.bgp_path.proofs.widths.other_len.Goals as goal

pub returns : goal.returns
returns c =
    ap (λ n. 2 + n * c.from.result) c.width.ensures
    ∙ ap (λ n. 2 + width_of (not c.args.wide) * n) c.from.ensures
    ∙ sym (length-other_segment c.args.wide (segment_view c.args.segment.now))

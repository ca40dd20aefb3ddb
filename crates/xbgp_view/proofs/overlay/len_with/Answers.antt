use Rattle.std.proofs.Common.{◌+◌, ◌-◌, ap, ◌∙◌, sym, length}
use Rattle.bgp_attr.specs.Routes.{kept_flags}
use Rattle.xbgp_view.proofs.EditsLemmas.{length-canon-with_attribute}
use Rattle.xbgp_view.proofs.overlay.len_with.Goals as goal

pub returns : goal.returns
returns c flags =
    let s = c.args.section.now in
    let g = c.args.gap in
    ap (λ n. g.start + (n + (length s - g.end))) (c.spelled_len.ensures.value c.args.code (kept_flags flags))
    ∙ sym (length-canon-with_attribute s c.args.value.now c.args.code flags (g.start, g.end) c.requires.section
    c.requires.gap)

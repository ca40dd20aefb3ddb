use Rattle.std.proofs.Common.{◌+◌, List, ℕ, drop, ap, sym, ◌∙◌}
use Rattle.xb_domain.specs.Views.{output_view}
use Rattle.spk_model.proofs.PrintLemmas.{drop_at}
use Rattle.xbgp_top.specs.Summaries.{counted_all}
use Rattle.xbgp_top.proofs.work.count_outputs.Goals as goal

pub outputs-preserved : goal.outputs-preserved
outputs-preserved c =
    let os = c.args.outputs.now in
    ap (λ (k : List ℕ). counted_all k (drop (c.outputs.i + 1) os)) c.count_output.ensures
    ∙ ap (counted_all c.outputs.counts) (sym (drop_at os c.outputs.i (output_view c.get.result) c.get.ensures))
    ∙ c.outputs.invariant

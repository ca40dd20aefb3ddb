use Rattle.std.proofs.Common.{◌<◌, ap, subst, ◌∙◌, length, Option, List, ℕ, None}
use Rattle.bgp_attr.specs.Routes.{Attribute}
use Rattle.spk_native.specs.Receipt.{aggregator_with, good, is_good_aggregator, is_good_path, path_with}
use Rattle.spk_native.specs.Rebuilds.{size_if, used_path, valued, wide_four}
use Rattle.spk_native.proofs.ReceiptLemmas.{used, IfErr-always}
use Rattle.spk_native.proofs.wide.wide_four.Goals as goal

pub returns-in_err-wide_path-clause-room : goal.returns-in_err-wide_path-clause-room
returns-in_err-wide_path-clause-room c =
    let f = c.args.had.now in
    let n = length c.args.path_room.now in
    let counts = used f c.good_aggregator_in-wide.result c.good_path_in.result c.unless.result
    c.aggregated_since-since.result (good is_good_path f.path4) c.good_aggregator_in-wide.ensures.value
    c.aggregated_since-since.ensures c.unless.ensures c.good_path_in.ensures.value in
    IfErr-always (n < size_if (wide_four f).path) c.from_residual.result
    (subst (λ (q : Option (List ℕ)). n < size_if (valued (path_with q) f.path)) counts
    c.in_err-wide_path.ensures.room)

pub returns-clause-value : goal.returns-clause-value
returns-clause-value c =
    let f = c.args.had.now in
    let w = c.good_aggregator_in-wide.result in
    let wide = c.good_aggregator_in-wide.ensures.value in
    let since = c.aggregated_since-since.result in
    let later = c.aggregated_since-since.ensures in
    let path = c.in_ok-wide_path.ensures.held
    ∙ ap (λ q. valued (path_with q) f.path)
    (used f w c.good_path_in.result c.unless.result since (good is_good_path f.path4) wide later c.unless.ensures
    c.good_path_in.ensures.value) in
    let aggregator = c.wide_aggregator_if-wide_aggregator.ensures
    ∙ ap (λ q. valued (aggregator_with q) f.aggregator)
    (used f w w c.unless-2.result since (good is_good_aggregator f.aggregator4) wide later c.unless-2.ensures wide) in
    ap (λ (o : Option Attribute). record {
      path = o;
      aggregator = c.wide_aggregator_if-wide_aggregator.result;
      path4 = None;
      aggregator4 = None;
    }) path
    ∙ ap (λ (o : Option Attribute). record {
      path = valued (path_with (used_path f)) f.path;
      aggregator = o;
      path4 = None;
      aggregator4 = None;
    }) aggregator

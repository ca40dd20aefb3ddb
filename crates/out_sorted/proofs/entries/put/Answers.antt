use Rattle.std.proofs.Common.{◌≡◌, Some, sym, ◌∙◌, ap, rules}
use Rattle.std.proofs.lemmas.Result.{on_err_weaker}
use Rattle.xb_words.specs.Table.{value_at, with_value}
use Rattle.xb_values.specs.Prefixes.{prefix_cmp}
use Rattle.out_sorted.proofs.SlotLemmas.{with_value-same}
use Rattle.out_sorted.proofs.entries.put.Goals as goal

pub returns-in-Occupied-clause-err : goal.returns-in-Occupied-clause-err
returns-in-Occupied-clause-err c =
    let es = c.args.entries.now.entries in
    let p = c.args.prefix in
    let slot = c.into_mut.result.now in
    let there : value_at prefix_cmp es p ≡ Some slot =
    sym c.in_ok-vacant.ensures.value ∙ rw c.in-Occupied.is c.into_mut.ensures.value in
    let same : with_value prefix_cmp es p slot ≡ es = with_value-same es p slot c.entry.ensures.ordered there in
    on_err_weaker c.set.result (λ unchanged.
    ◌∙◌ {b = with_value prefix_cmp es p c.set.new.self} (search rules)
    (ap (with_value prefix_cmp es p) unchanged ∙ same)) c.set.ensures.err

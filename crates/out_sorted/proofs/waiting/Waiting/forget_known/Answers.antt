use Rattle.std.proofs.Common.{◌≡◌, List, sym, ap, subst}
use Rattle.std.specs.BTreeMap.Range.{IsLeBy}
use Rattle.std.specs.BTreeSet.{insert_key}
use Rattle.std.specs.List.{AllByRecursion}
use Rattle.std.specs.Ordering.{is_gt}
use Rattle.std.proofs.lemmas.Cmp.{tied_itself}
use Rattle.xb_values.specs.Prefixes.{Prefix, prefix_cmp}
use Rattle.xb_values.proofs.PrefixLemmas.{prefix_total}
use Rattle.out_sorted.specs.Waits.{HasBy}
use Rattle.out_sorted.proofs.WaitLemmas.{AllFrom-insert_key-first}
use Rattle.out_sorted.proofs.waiting.Waiting.forget_known.Goals as goal
use Rattle.out_sorted.proofs.waiting.Waiting.forget_known.Goals.{in-Some, in-None}

pub returns : goal.returns
returns c ps has =
    let p = c.args.prefix in
    let known = c.args.self.now.known.keys in
    let start = c.match-first_known.from in
    let all : AllByRecursion (IsLeBy prefix_cmp start) (insert_key prefix_cmp known p) =
    elim c.match-first_known.branch [
      | in-Some w ↦ AllFrom-insert_key-first c.first_known.result start p known c.requires.ordered c.first_known.ensures
          (subst (λ (q : Prefix). IsLeBy prefix_cmp q p) (sym w.from-is) w.earlier-from.ensures.second)
          (λ first is.
          let same : w.in-Some.first ≡ first = cc (w.in-Some.is, is) in
          subst (λ (q : Prefix). IsLeBy prefix_cmp q first) (sym w.from-is)
          (subst (λ (q : Prefix). IsLeBy prefix_cmp w.earlier-from.result q) same w.earlier-from.ensures.first))
      | in-None w ↦ AllFrom-insert_key-first c.first_known.result start p known c.requires.ordered c.first_known.ensures
          (subst (λ (q : Prefix). IsLeBy prefix_cmp q p) (sym w.from-is) (ap is_gt (tied_itself prefix_total p)))
          (λ first is. absurd (cc (w.in-None.is, is)))
    ] in
    let same : known ≡ ps = subst (λ o. HasBy o known ps) c.requires.alone has in (
      c.clear.ensures.empty,
      subst (λ (l : List Prefix). AllByRecursion (IsLeBy prefix_cmp start) (insert_key prefix_cmp l p)) same all,
    )

use Rattle.std.proofs.Common.{◌≡◌, ◌+◌, ◌∙◌, ap, sym, subst, arith, Some}
use Rattle.std.specs.List.Sorted.{IsStrictlySortedBy}
use Rattle.std.specs.Map.{keys_of}
use Rattle.std.specs.Ordering.{nat_cmp}
use Rattle.bgp_attr.specs.Routes.{Route}
use Rattle.xbgp_view.specs.Views.{Edited, code_from}
use Rattle.xbgp_view.proofs.ViewsLemmas.{IsNext-code_from}
use Rattle.spk_native.specs.Marks.{marked_at, marked_below}
use Rattle.spk_native.proofs.MarksLemmas.{marked_below-known, marked_below-all, keys_of-marked_below}
use Rattle.spk_native.proofs.MarksLemmas.{code_from-marked_below}
use Rattle.spk_native.proofs.MarksLemmas.{marked_at-marked_below}
use Rattle.spk_native.proofs.export.mark_all.Goals as goal

pub codes-init : goal.codes-init
codes-init c = (
  c.mark.ensures
      ∙ ap (λ r. record { route = r; kept = c.args.route.now.kept })
      (marked_below-known c.args.route.now.route
      ∙ ap (λ n. marked_below n c.args.route.now.route) (omega (arith, c.from-from.ensures))),
  omega arith,
)

pub codes-smaller : goal.codes-smaller
codes-smaller c =
    let is = c.in-Some.ensures.shape in
    let next = IsNext-code_from c.codes.route.route c.codes.from c.in-Some.code is.entries is.rising
    c.in-Some.ensures.value in
    omega (arith, next.past, next.inside, c.from-from-in-Some.ensures)

pub codes-preserved : goal.codes-preserved
codes-preserved c =
    let r = c.args.route.now.route in
    let from = c.codes.from in
    let code = c.in-Some.code in
    let is = c.in-Some.ensures.shape in
    let next = IsNext-code_from c.codes.route.route from code is.entries is.rising c.in-Some.ensures.value in
    let here = ap (λ (e : Edited). e.route) c.codes.invariant.0 in
    let rising : IsStrictlySortedBy nat_cmp (keys_of r) =
    subst (λ ks. IsStrictlySortedBy nat_cmp ks) (ap (λ (l : Route). keys_of l) here ∙ keys_of-marked_below from r)
    is.rising in
    let found : Some code ≡ code_from r from =
    c.in-Some.ensures.value ∙ ap (λ l. code_from l from) here ∙ code_from-marked_below from r from in (
      c.mark-in-Some.ensures
          ∙ ap (λ (e : Edited). record { route = marked_at code e.route; kept = e.kept }) c.codes.invariant.0
          ∙ ap (λ l. record { route = l; kept = c.args.route.now.kept })
          (marked_at-marked_below r from code rising found
          ∙ ap (λ n. marked_below (n + 1) r) (sym c.from-from-in-Some.ensures)),
      omega (arith, next.inside, c.from-from-in-Some.ensures),
    )

pub returns : goal.returns
returns c =
    let r = c.args.route.now.route in
    let from = c.codes.from in
    let here = ap (λ (e : Edited). e.route) c.codes.invariant.0 in
    c.codes.invariant.0
    ∙ ap (λ l. record { route = l; kept = c.args.route.now.kept })
    (marked_below-all r from (sym c.in_default.is ∙ c.code_from.ensures.value
    ∙ ap (λ l. code_from l from) here ∙ code_from-marked_below from r from))

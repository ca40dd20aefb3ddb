use Rattle.std.proofs.Common.{◌+◌, ◌++◌, ◌∙◌, ap, sym, length, arith}
use Rattle.std.proofs.lemmas.List.{length-append}
use Rattle.xb_values.specs.Buffers.{Buffer}
use Rattle.bgp_attr.specs.Routes.{attribute_at, canon}
use Rattle.xbgp_view.specs.Sections.{entry_octets, below_code}
use Rattle.xbgp_view.proofs.EditsLemmas.{IsCanonical-spelled}
use Rattle.xbgp_view.proofs.ViewsLemmas.{below_code-all, canon-below_code-next, IsNext-code_from}
use Rattle.xbgp_view.proofs.ViewsLemmas.{length-canon-below_code, below_code-zero}
use Rattle.xbgp_view.proofs.view.spell.Goals as goal

pub codes-init : goal.codes-init
codes-init g c = (
  c.clear.ensures ∙ ap (λ r. record { octets = canon r; capacity = c.args.out.now.capacity }) (sym (below_code-zero (g.R.RouteView.route c.args.view.now))),
  omega arith,
)

pub append_entry-requires : goal.append_entry-requires
append_entry-requires g c =
    let r = g.R.RouteView.route c.args.view.now in
    let next = IsNext-code_from r c.codes.from c.in-Some.code c.in-Some.ensures.shape.entries c.in-Some.ensures.shape.rising c.in-Some.ensures.value in
    omega (
      arith,
      c.requires,
      ap (λ (b : Buffer). length b.octets) c.codes.invariant.0,
      ap (λ (b : Buffer). b.capacity) c.codes.invariant.0,
      ap length (canon-below_code-next r c.codes.from c.in-Some.code next) ∙ length-append (canon (below_code c.codes.from r)) (entry_octets c.in-Some.code (attribute_at r c.in-Some.code)),
      length-canon-below_code r (c.in-Some.code + 1),
      c.in-Some.ensures.shape.short,
    )

pub codes-smaller : goal.codes-smaller
codes-smaller g c =
    let r = g.R.RouteView.route c.args.view.now in
    let next = IsNext-code_from r c.codes.from c.in-Some.code c.in-Some.ensures.shape.entries c.in-Some.ensures.shape.rising c.in-Some.ensures.value in
    omega (arith, next.past, next.inside, c.from-from.ensures)

pub codes-preserved : goal.codes-preserved
codes-preserved g c =
    let r = g.R.RouteView.route c.args.view.now in
    let next = IsNext-code_from r c.codes.from c.in-Some.code c.in-Some.ensures.shape.entries c.in-Some.ensures.shape.rising c.in-Some.ensures.value in (
      c.append_entry.ensures
          ∙ ap (λ (b : Buffer). record b { octets = b.octets ++ entry_octets c.in-Some.code (attribute_at r c.in-Some.code) }) c.codes.invariant.0
          ∙ ap (λ t. record { octets = t; capacity = c.args.out.now.capacity }) (sym (canon-below_code-next r c.codes.from c.in-Some.code next) ∙ ap (λ n. canon (below_code (n + 1) r)) (sym c.from-from.ensures)),
      omega (arith, next.inside, c.from-from.ensures),
    )

pub returns-clause-written : goal.returns-clause-written
returns-clause-written g c =
    c.codes.invariant.0
    ∙ ap (λ r. record { octets = canon r; capacity = c.args.out.now.capacity }) (below_code-all (g.R.RouteView.route c.args.view.now) c.codes.from (sym c.in_default.is ∙ c.code_from.ensures.value))

pub returns-clause-canonical : goal.returns-clause-canonical
returns-clause-canonical g c =
    (IsCanonical-spelled c.codes.out.octets (g.R.RouteView.route c.args.view.now) c.code_from.ensures.shape (ap (λ (b : Buffer). b.octets) (returns-clause-written g c))).0

pub returns-clause-route : goal.returns-clause-route
returns-clause-route g c =
    (IsCanonical-spelled c.codes.out.octets (g.R.RouteView.route c.args.view.now) c.code_from.ensures.shape (ap (λ (b : Buffer). b.octets) (returns-clause-written g c))).1

use Rattle.std.proofs.Common.{sym, ap, ◌∙◌, ◌+◌, arith, length, length-append}
use Rattle.bgp_attr.specs.Routes.{attribute_at, canon}
use Rattle.xbgp_view.specs.Sections.{below_code, entry_octets}
use Rattle.xbgp_view.proofs.ViewsLemmas.{below_code-all, below_code-zero, canon-below_code-next, IsNext-code_from}
use Rattle.xbgp_view.proofs.ViewsLemmas.{length-canon-below_code}
use Rattle.attr_intern.specs.Fields.{fields_from}
use Rattle.attr_intern.proofs.FieldsLemmas.{fields_from-next}
use Rattle.attr_intern.proofs.record.fields_of.Goals as goal

pub codes-init : goal.codes-init
codes-init g c =
    let none = sym (below_code-zero (g.R.RouteView.route c.args.view.now)) in (
      c.new-fields.ensures.items ∙ ap (fields_from 0) none,
      ap (λ r. length (canon r)) none,
      omega arith,
    )

pub codes-smaller : goal.codes-smaller
codes-smaller g c =
    let next = IsNext-code_from (g.R.RouteView.route c.args.view.now) c.codes.from c.in-Some.code
    c.in-Some.ensures.shape.entries c.in-Some.ensures.shape.rising c.in-Some.ensures.value in
    omega (arith, next.past, next.inside, c.from-from.ensures)

pub push_field-requires : goal.push_field-requires
push_field-requires g c =
    let r = g.R.RouteView.route c.args.view.now in
    let code = c.in-Some.code in
    let next = IsNext-code_from r c.codes.from code c.in-Some.ensures.shape.entries c.in-Some.ensures.shape.rising
    c.in-Some.ensures.value in
    omega (
      arith,
      c.codes.invariant.1,
      ap length (canon-below_code-next r c.codes.from code next),
      length-append (canon (below_code c.codes.from r)) (entry_octets code (attribute_at r code)),
      length-canon-below_code r (code + 1),
      c.in-Some.ensures.shape.short,
    )

pub codes-preserved : goal.codes-preserved
codes-preserved g c =
    let r = g.R.RouteView.route c.args.view.now in
    let next = IsNext-code_from r c.codes.from c.in-Some.code c.in-Some.ensures.shape.entries
    c.in-Some.ensures.shape.rising c.in-Some.ensures.value in
    let both = fields_from-next r c.codes.from c.in-Some.code c.from-from.result c.codes.at c.in_ok-at.at
    c.codes.fields.items c.push_field.new.fields.items next c.codes.invariant.0 c.codes.invariant.1
    c.in_ok-at.ensures.field c.in_ok-at.ensures.next c.from-from.ensures in
    (both.0, both.1, omega (arith, next.inside, c.from-from.ensures))

pub returns : goal.returns
returns g c =
    c.codes.invariant.0
    ∙ ap (fields_from 0) (below_code-all (g.R.RouteView.route c.args.view.now) c.codes.from
    (sym c.in_default.is ∙ c.code_from.ensures.value))

use Rattle.std.proofs.Common.{◌≤◌, ◌+◌, ◌++◌, ◌∙◌, ap, sym, length, arith}
use Rattle.std.proofs.lemmas.List.{length-append}
use Rattle.xb_values.specs.Buffers.{Buffer}
use Rattle.xb_values.proofs.BufferLemmas.{Appends-fits}
use Rattle.bgp_attr.specs.Routes.{attribute_at, canon}
use Rattle.xbgp_view.specs.Sections.{entry_of, below_code}
use Rattle.xbgp_view.proofs.ViewsLemmas.{below_code-all, IsNext-code_from, length-canon-below_code, below_code-zero}
use Rattle.spk_native.specs.Export.{native_section}
use Rattle.spk_native.proofs.ExportLemmas.{native_section-next, length-native_section}
use Rattle.spk_native.proofs.export.native_section.Goals as goal

pub returns-then-has_known_alone : goal.returns-then-has_known_alone
returns-then-has_known_alone c =
    let r = c.args.route.now.route in
    let fits : length c.clear.new.self.octets + length (canon r) ≤ c.clear.new.self.capacity = omega (
      arith,
      c.requires,
      c.has_known_alone.ensures.shape.short,
      ap (λ (b : Buffer). length b.octets) c.clear.ensures,
      ap (λ (b : Buffer). b.capacity) c.clear.ensures,
    ) in
    Appends-fits c.section.result c.clear.new.self c.section.new.out (canon r) c.section.ensures fits
    ∙ ap (λ (b : Buffer). record b { octets = b.octets ++ canon r }) c.clear.ensures
    ∙ ap (λ t. record { octets = t; capacity = c.args.out.now.capacity }) (sym c.if-has_known_alone.ensures.whole)

pub codes-init : goal.codes-init
codes-init c = (
  c.clear.ensures
      ∙ ap (λ r. record { octets = native_section r; capacity = c.args.out.now.capacity })
      (sym (below_code-zero c.args.route.now.route)),
  omega arith,
)

pub append_passed_on-requires : goal.append_passed_on-requires
append_passed_on-requires c =
    let r = c.args.route.now.route in
    let code = c.in-Some.code in
    let is = c.in-Some.ensures.shape in
    let next = IsNext-code_from r c.codes.from code is.entries is.rising c.in-Some.ensures.value in
    omega (
      arith,
      c.requires,
      ap (λ (b : Buffer). length b.octets) c.codes.invariant.0,
      ap (λ (b : Buffer). b.capacity) c.codes.invariant.0,
      ap length (native_section-next r c.codes.from code next)
          ∙ length-append (native_section (below_code c.codes.from r))
          (native_section (entry_of code (attribute_at r code))),
      length-native_section (below_code (code + 1) r),
      length-canon-below_code r (code + 1),
      is.short,
    )

pub codes-smaller : goal.codes-smaller
codes-smaller c =
    let r = c.args.route.now.route in
    let is = c.in-Some.ensures.shape in
    let next = IsNext-code_from r c.codes.from c.in-Some.code is.entries is.rising c.in-Some.ensures.value in
    omega (arith, next.past, next.inside, c.from-from.ensures)

pub codes-preserved : goal.codes-preserved
codes-preserved c =
    let r = c.args.route.now.route in
    let code = c.in-Some.code in
    let room = c.args.out.now.capacity in
    let is = c.in-Some.ensures.shape in
    let next = IsNext-code_from r c.codes.from code is.entries is.rising c.in-Some.ensures.value in (
      c.append_passed_on.ensures
          ∙ ap (λ (b : Buffer). record b {
            octets = b.octets ++ native_section (entry_of code (attribute_at r code));
          }) c.codes.invariant.0
          ∙ ap (λ t. record { octets = t; capacity = room })
          (sym (native_section-next r c.codes.from code next)
          ∙ ap (λ n. native_section (below_code (n + 1) r)) (sym c.from-from.ensures)),
      omega (arith, next.inside, c.from-from.ensures),
    )

pub returns : goal.returns
returns c =
    c.codes.invariant.0
    ∙ ap (λ r. record { octets = native_section r; capacity = c.args.out.now.capacity })
    (below_code-all c.args.route.now.route c.codes.from (sym c.in_default.is ∙ c.code_from.ensures.value))

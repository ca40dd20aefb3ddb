use Rattle.std.proofs.Common.{ℕ, List, ◌++◌, ◌≡◌, [], take, drop, ap, sym, ◌∙◌, length, arith}
use Rattle.std.proofs.lemmas.List.{length-take-le, append-nil, drop_all}
use Rattle.xb_values.specs.Buffers.{Buffer}
use Rattle.bgp_attr.specs.Routes.{canonical, kept_flags, route_of, with_attribute}
use Rattle.xbgp_view.proofs.CanonicalLemmas.{length-value-canonical}
use Rattle.xbgp_view.proofs.EditsLemmas.{canon-with_attribute, IsRoute-with_attribute, length-canon-with_attribute}
use Rattle.xbgp_view.proofs.EditsLemmas.{AreOctets-slice, IsCanonical-spelled}
use Rattle.xbgp_view.proofs.overlay.fill_last.Goals as goal

pub append_attribute-requires-clause-room : goal.append_attribute-requires-clause-room
append_attribute-requires-clause-room c =
    let s = c.args.section.now.octets in
    let v = c.args.value.now in
    let g = c.args.gap in
    let gap = c.requires.gap in
    omega (
      arith,
      c.requires.fits,
      c.requires.room,
      ap (λ (b : Buffer). length b.octets) c.truncate.ensures
          ∙ length-take-le g.start s (omega (arith, gap.order, gap.inside)),
      ap (λ (b : Buffer). b.capacity) c.truncate.ensures,
      ap (λ f. length (canonical (c.args.code, record { flags = f; value = v }))) c.kept_flags.ensures,
      length-canon-with_attribute s v c.args.code c.args.flags (g.start, g.end) c.requires.section gap,
    )

pub append_attribute-requires-clause-short : goal.append_attribute-requires-clause-short
append_attribute-requires-clause-short c =
    let s = c.args.section.now.octets in
    let v = c.args.value.now in
    let g = c.args.gap in
    omega (
      arith,
      c.requires.fits,
      length-canon-with_attribute s v c.args.code c.args.flags (g.start, g.end) c.requires.section c.requires.gap,
      length-value-canonical (c.args.code, record { flags = kept_flags c.args.flags; value = v }),
    )

pub returns-clause-written : goal.returns-clause-written
returns-clause-written c =
    let s = c.args.section.now.octets in
    let v = c.args.value.now in
    let g = c.args.gap in
    let room = c.args.section.now.capacity in
    let x : ℕ → List ℕ = λ f. canonical (c.args.code, record { flags = f; value = v }) in
    let mine = x (kept_flags c.args.flags) in
    let none : drop g.end s ≡ [] = drop_all g.end s (omega (arith, c.requires.last)) in
    c.append_attribute.ensures
    ∙ ap (λ (b : Buffer). record b { octets = b.octets ++ x c.kept_flags.result }) c.truncate.ensures
    ∙ ap (λ f. record { octets = take g.start s ++ x f; capacity = room }) c.kept_flags.ensures
    ∙ ap (λ t. record { octets = take g.start s ++ t; capacity = room })
    (sym (ap (λ t. mine ++ t) none ∙ append-nil mine))
    ∙ ap (λ t. record { octets = t; capacity = room })
    (canon-with_attribute s v c.args.code c.args.flags (g.start, g.end) c.requires.section c.requires.gap)

pub returns-clause-canonical : goal.returns-clause-canonical
returns-clause-canonical c =
    let s = c.args.section.now.octets in
    let v = c.args.value.now in
    (IsCanonical-spelled c.append_attribute.new.out.octets (with_attribute (route_of s) c.args.code c.args.flags v)
    (IsRoute-with_attribute s v c.args.code c.args.flags c.requires.section c.ranges.code.fits
    (AreOctets-slice v (λ i. (c.type_inv.value i).fits)) c.requires.fits)
    (ap (λ (b : Buffer). b.octets) (returns-clause-written c))).0

pub returns-clause-route : goal.returns-clause-route
returns-clause-route c =
    let s = c.args.section.now.octets in
    let v = c.args.value.now in
    (IsCanonical-spelled c.append_attribute.new.out.octets (with_attribute (route_of s) c.args.code c.args.flags v)
    (IsRoute-with_attribute s v c.args.code c.args.flags c.requires.section c.ranges.code.fits
    (AreOctets-slice v (λ i. (c.type_inv.value i).fits)) c.requires.fits)
    (ap (λ (b : Buffer). b.octets) (returns-clause-written c))).1

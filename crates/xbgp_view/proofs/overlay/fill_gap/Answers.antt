use Rattle.std.proofs.Common.{◌-◌, ◌++◌, take, drop, ap, ◌∙◌, length, arith, append_assoc}
use Rattle.std.proofs.lemmas.List.{take_rest, length-take-le, length-drop, length-append}
use Rattle.xb_values.specs.Buffers.{Buffer}
use Rattle.bgp_attr.specs.Routes.{canonical, kept_flags, route_of, with_attribute}
use Rattle.xbgp_view.proofs.CanonicalLemmas.{length-value-canonical}
use Rattle.xbgp_view.proofs.EditsLemmas.{canon-with_attribute, IsRoute-with_attribute, length-canon-with_attribute}
use Rattle.xbgp_view.proofs.EditsLemmas.{AreOctets-slice, IsCanonical-spelled}
use Rattle.xbgp_view.proofs.overlay.fill_gap.Goals as goal

pub append_attribute-requires-clause-room : goal.append_attribute-requires-clause-room
append_attribute-requires-clause-room c =
    let s = c.args.section.now in
    let g = c.args.gap in
    let gap = c.requires.gap in
    omega (
      arith,
      c.requires.fits,
      c.requires.room,
      ap (λ (b : Buffer). length b.octets) c.replace.ensures ∙ length-take-le g.start s (omega (arith, gap.order, gap.inside)),
      ap (λ (b : Buffer). b.capacity) c.replace.ensures,
      ap (λ f. length (canonical (c.args.code, record { flags = f; value = c.args.value.now }))) c.kept_flags.ensures,
      length-canon-with_attribute s c.args.value.now c.args.code c.args.flags (g.start, g.end) c.requires.section gap,
    )

pub append_attribute-requires-clause-short : goal.append_attribute-requires-clause-short
append_attribute-requires-clause-short c =
    let s = c.args.section.now in
    let g = c.args.gap in
    omega (
      arith,
      c.requires.fits,
      length-canon-with_attribute s c.args.value.now c.args.code c.args.flags (g.start, g.end) c.requires.section
          c.requires.gap,
      length-value-canonical (c.args.code, record { flags = kept_flags c.args.flags; value = c.args.value.now }),
    )

pub append-requires : goal.append-requires
append-requires c =
    let s = c.args.section.now in
    let g = c.args.gap in
    let gap = c.requires.gap in
    let x = canonical (c.args.code, record { flags = c.kept_flags.result; value = c.args.value.now }) in
    omega (
      arith,
      c.requires.fits,
      c.requires.room,
      ap (λ (b : Buffer). length b.octets) c.append_attribute.ensures ∙ length-append c.replace.new.self.octets x,
      ap (λ (b : Buffer). b.capacity) c.append_attribute.ensures,
      ap (λ (b : Buffer). length b.octets) c.replace.ensures ∙ length-take-le g.start s (omega (arith, gap.order, gap.inside)),
      ap (λ (b : Buffer). b.capacity) c.replace.ensures,
      ap (λ f. length (canonical (c.args.code, record { flags = f; value = c.args.value.now }))) c.kept_flags.ensures,
      ap length (take_rest s g.end) ∙ length-drop g.end s,
      length-canon-with_attribute s c.args.value.now c.args.code c.args.flags (g.start, g.end) c.requires.section gap,
    )

pub returns-clause-written : goal.returns-clause-written
returns-clause-written c =
    let s = c.args.section.now in
    let g = c.args.gap in
    let room = c.args.out.now.capacity in
    let x = canonical (c.args.code, record { flags = kept_flags c.args.flags; value = c.args.value.now }) in
    c.append.ensures
    ∙ ap (λ (b : Buffer). record b { octets = b.octets ++ take (length s - g.end) (drop g.end s) })
    (c.append_attribute.ensures
    ∙ ap (λ (b : Buffer). record b { octets = b.octets ++ canonical (c.args.code, record { flags = c.kept_flags.result; value = c.args.value.now }) }) c.replace.ensures
    ∙ ap (λ f. record { octets = take g.start s ++ canonical (c.args.code, record { flags = f; value = c.args.value.now }); capacity = room }) c.kept_flags.ensures)
    ∙ ap (λ t. record { octets = (take g.start s ++ x) ++ t; capacity = room }) (take_rest s g.end)
    ∙ ap (λ t. record { octets = t; capacity = room })
    (append_assoc (take g.start s) x (drop g.end s)
    ∙ canon-with_attribute s c.args.value.now c.args.code c.args.flags (g.start, g.end) c.requires.section
    c.requires.gap)

pub returns-clause-canonical : goal.returns-clause-canonical
returns-clause-canonical c =
    let s = c.args.section.now in
    (IsCanonical-spelled c.append.new.self.octets (with_attribute (route_of s) c.args.code c.args.flags c.args.value.now)
    (IsRoute-with_attribute s c.args.value.now c.args.code c.args.flags c.requires.section c.ranges.code.fits (AreOctets-slice c.args.value.now (λ i. (c.type_inv.value i).fits)) c.requires.fits)
    (ap (λ (b : Buffer). b.octets) (returns-clause-written c))).0

pub returns-clause-route : goal.returns-clause-route
returns-clause-route c =
    let s = c.args.section.now in
    (IsCanonical-spelled c.append.new.self.octets (with_attribute (route_of s) c.args.code c.args.flags c.args.value.now)
    (IsRoute-with_attribute s c.args.value.now c.args.code c.args.flags c.requires.section c.ranges.code.fits (AreOctets-slice c.args.value.now (λ i. (c.type_inv.value i).fits)) c.requires.fits)
    (ap (λ (b : Buffer). b.octets) (returns-clause-written c))).1

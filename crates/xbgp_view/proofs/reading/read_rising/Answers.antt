use Rattle.std.proofs.Common.{ap, arith, length}
use Rattle.bgp_attr.specs.Routes.{canonical, kept_flags}
use Rattle.bgp_attr.specs.Views.{attr_view}
use Rattle.xbgp_view.proofs.CanonicalLemmas.{length-value-canonical}
use Rattle.xbgp_view.proofs.EditsLemmas.{AreOctets-slice}
use Rattle.xbgp_view.proofs.LengthsLemmas.{IsRoute-route_of}
use Rattle.xbgp_view.proofs.RisingLemmas.{canonical-fits, IsCanonical-rising}
use Rattle.xbgp_view.proofs.reading.read_rising.Goals as goal

pub append_attribute-requires-clause-room : goal.append_attribute-requires-clause-room
append_attribute-requires-clause-room c =
    let a = c.in-Some.attr in
    let s = c.args.section.now in
    omega (
      arith,
      c.requires.section,
      c.attrs.invariant.capacity,
      ap (λ f. length (canonical (a.code, record { flags = f; value = a.value.now }))) c.kept_flags.ensures,
      canonical-fits s c.attrs.out.octets (attr_view a) c.attrs.attrs c.next_attr.new.attrs
          (AreOctets-slice s (λ i. (c.type_inv.section i).fits)) c.in-Some.ensures.item c.attrs.invariant.octets,
    )

pub append_attribute-requires-clause-short : goal.append_attribute-requires-clause-short
append_attribute-requires-clause-short c =
    let a = c.in-Some.attr in
    let s = c.args.section.now in
    omega (
      arith,
      c.requires.section,
      length-value-canonical (a.code, record { flags = kept_flags a.flags; value = a.value.now }),
      canonical-fits s c.attrs.out.octets (attr_view a) c.attrs.attrs c.next_attr.new.attrs
          (AreOctets-slice s (λ i. (c.type_inv.section i).fits)) c.in-Some.ensures.item c.attrs.invariant.octets,
    )

pub returns-clause-canonical : goal.returns-clause-canonical
returns-clause-canonical c =
    let s = c.args.section.now in
    (IsCanonical-rising s c.attrs.out.octets c.attrs.from c.attrs.attrs
    (IsRoute-route_of s (AreOctets-slice s (λ i. (c.type_inv.section i).fits)) c.requires.section)
    c.in_default.ensures.end c.attrs.invariant.rising c.attrs.invariant.octets).0

pub returns-clause-route : goal.returns-clause-route
returns-clause-route c =
    let s = c.args.section.now in
    (IsCanonical-rising s c.attrs.out.octets c.attrs.from c.attrs.attrs
    (IsRoute-route_of s (AreOctets-slice s (λ i. (c.type_inv.section i).fits)) c.requires.section)
    c.in_default.ensures.end c.attrs.invariant.rising c.attrs.invariant.octets).1

use Rattle.std.proofs.Common.{◌∙◌, ap, ◌∷◌, ◌++◌, ◌+◌, sym}
use Rattle.std.proofs.Math.Facts.{Fits-lt-pow}
use Rattle.bgp_attr.specs.declared.segments.TheConstants.{AS_SEQUENCE}
use Rattle.bgp_attr.specs.Paths.{number_octets}
use Rattle.bgp_attr.specs.Paths.{width_of}
use Rattle.bgp_path.specs.Views.{segment_view}
use Rattle.bgp_path.proofs.NumbersLemmas.{AreOctets-from_get_or}
use Rattle.bgp_path.proofs.PrependLemmas.{path_ok-prepend-new, path_ok-prepend-open, path_octets-prepend-new}
use Rattle.bgp_path.proofs.PrependLemmas.{prepend-full_or_set, path_octets-prepend-open, prepend-no_segment}
use Rattle.bgp_path.proofs.segments.prepended_parts.Goals as goal

pub returns-in_default-clause-octets : goal.returns-in_default-clause-octets
returns-in_default-clause-octets c = λ asn.
    path_octets-prepend-new c.args.wide c.args.path.now asn (AreOctets-from_get_or c.args.path.now (λ i. Fits-lt-pow (c.type_inv.path i))) c.requires
    (prepend-no_segment (width_of c.args.wide) asn c.args.path.now c.in_default.ensures.splits)

pub returns-then-is_full_or_set-clause-octets : goal.returns-then-is_full_or_set-clause-octets
returns-then-is_full_or_set-clause-octets c = λ asn.
    path_octets-prepend-new c.args.wide c.args.path.now asn (AreOctets-from_get_or c.args.path.now (λ i. Fits-lt-pow (c.type_inv.path i))) c.requires
    (prepend-full_or_set (width_of c.args.wide) asn c.args.path.now (segment_view c.in-Some.first) c.in-Some.field-0-1.now c.in-Some.ensures.splits
    (sym c.is_full_or_set.ensures ∙ c.if-is_full_or_set.true))

pub returns-clause-octets : goal.returns-clause-octets
returns-clause-octets c = λ asn.
    path_octets-prepend-open c.args.wide asn c.args.path.now (segment_view c.in-Some.first) c.in-Some.field-0-1.now (AreOctets-from_get_or c.args.path.now (λ i. Fits-lt-pow (c.type_inv.path i)))
    c.in-Some.ensures.splits (sym c.is_full_or_set.ensures ∙ c.if-is_full_or_set.false)
    ∙ ap (λ t. AS_SEQUENCE ∷ (c.in-Some.first.count + 1) ∷ (number_octets (width_of c.args.wide) asn ++ t)) (sym c.split_at.ensures.back)

pub returns-in_default-clause-path : goal.returns-in_default-clause-path
returns-in_default-clause-path c = λ asn. path_ok-prepend-new c.args.wide asn c.args.path.now c.requires

pub returns-then-is_full_or_set-clause-path : goal.returns-then-is_full_or_set-clause-path
returns-then-is_full_or_set-clause-path c = λ asn. path_ok-prepend-new c.args.wide asn c.args.path.now c.requires

pub returns-clause-path : goal.returns-clause-path
returns-clause-path c = λ asn.
    let w = width_of c.args.wide in
    rw c.split_at.ensures.back (path_ok-prepend-open c.args.wide asn c.args.path.now (segment_view c.in-Some.first) c.in-Some.field-0-1.now c.in-Some.ensures.splits)

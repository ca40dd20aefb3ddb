use Rattle.std.proofs.Common.{◌≡◌, ◌∷◌, ◌++◌, arith, rules}
use Rattle.std.proofs.lemmas.Grind.{common_steps}
use Rattle.bgp_attr.specs.declared.segments.TheConstants.{AS_SEQUENCE}
use Rattle.bgp_attr.specs.Paths.{number_octets}
use Rattle.bgp_path.specs.Parts.{prepended}
use Rattle.bgp_attr.specs.Paths.{width_of}
use Rattle.bgp_path.proofs.PrependLemmas.{length-prepended, length-number_octets}
use Rattle.bgp_path.proofs.segments.Segments.prepend_into.Goals as goal

pub returns-clause-written : goal.returns-clause-written
returns-clause-written c =
    let text : prepended c.args.self.now c.args.asn ≡ AS_SEQUENCE ∷ c.prepended_parts-count.result.0 ∷ number_octets (width_of c.self.inside.wide) c.args.asn ++ c.prepended_parts-count.result.1.now =
    rw (← c.self.view_is) (c.prepended_parts-count.ensures.octets c.args.asn) in
    let len = length-number_octets c.self.inside.wide c.args.asn in
    rw text (first_of (search (rules, len), grind (arith, common_steps, len), search rules, grind (arith, common_steps)))

pub returns-clause-bound : goal.returns-clause-bound
returns-clause-bound c =
    let text : prepended c.args.self.now c.args.asn ≡ AS_SEQUENCE ∷ c.prepended_parts-count.result.0 ∷ number_octets (width_of c.self.inside.wide) c.args.asn ++ c.prepended_parts-count.result.1.now =
    rw (← c.self.view_is) (c.prepended_parts-count.ensures.octets c.args.asn) in
    let len = length-prepended c.self.inside.wide c.args.asn c.prepended_parts-count.result.0 (prepended c.args.self.now c.args.asn) c.prepended_parts-count.result.1.now text in
    rw len (rw (← c.self.view_is) (omega (arith, c.prepended_parts-count.ensures.within)))

pub returns-clause-path : goal.returns-clause-path
returns-clause-path c =
    rw (← c.self.view_is) (rw (c.prepended_parts-count.ensures.octets c.args.asn) (c.prepended_parts-count.ensures.path c.args.asn))

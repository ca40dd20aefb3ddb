use Rattle.std.proofs.Common.{◌≡◌, refl, sym, ap, ◌∙◌, ◌+◌, ◌-◌, ◌<◌, ◌++◌, take, drop, not, flat_map, arith}
use Rattle.bgp_attr.specs.Paths.{first_number, number_octets, numbers_of, width_of}
use Rattle.bgp_path.specs.Units.{other_number, other_octets}
use Rattle.bgp_path.proofs.NumbersLemmas.{length-numbers_rest}
use Rattle.bgp_path.proofs.PrependLemmas.{length-number_octets}
use Rattle.bgp_path.proofs.UnitsLemmas.{length-numbers_in_other, other_octets-split}
use Rattle.bgp_path.proofs.WritingLemmas.{IsWriting-start, IsWriting-fits, IsWriting-more}
use Rattle.bgp_path.proofs.numbers.write_in_other_width.Goals as goal

pub numbers-init : goal.numbers-init
numbers-init c =
    let text = flat_map (other_octets c.args.wide) (numbers_of (width_of c.args.wide) c.args.count c.args.octets.now) in
    let len = length-numbers_in_other c.args.wide c.args.count c.args.octets.now in
    record {
      left = c.requires.octets;
      writing = IsWriting-start c.args.at text c.args.out.now (omega (arith, c.requires.room, len));
    }

pub write_number-requires-clause-room : goal.write_number-requires-clause-room
write_number-requires-clause-room c =
    let wide = c.args.wide in
    let w = width_of wide in
    let some : 0 < c.numbers.left = omega (arith, c.numbers-test.true) in
    let part = other_octets wide (first_number w c.numbers.rest.now) in
    let rest = drop w c.numbers.rest.now in
    let fits =
    IsWriting-fits _ _ _ _ _ _ part (flat_map (other_octets wide) (numbers_of w (c.numbers.left - 1) rest)) c.numbers.invariant.writing
    (other_octets-split wide c.numbers.left c.numbers.rest.now rest some refl) in
    omega (arith, fits, length-number_octets (not wide) (other_number wide (first_number w c.numbers.rest.now)), c.numbers.auto.out)

pub numbers-preserved : goal.numbers-preserved
numbers-preserved c =
    let wide = c.args.wide in
    let w = width_of wide in
    let other = width_of (not wide) in
    let some : 0 < c.numbers.left = omega (arith, c.numbers-test.true) in
    let after = c.split_at.ensures.back ∙ ap (λ n. drop n c.numbers.rest.now) c.width.ensures in
    let number = other_number wide (first_number w c.numbers.rest.now) in
    let asn : c.other_number-asn.result ≡ number = c.other_number-asn.ensures.number ∙ ap (other_number wide) c.number_at_front.ensures in
    let len = length-number_octets (not wide) number in
    record {
      left = length-numbers_rest w c.numbers.left c.numbers.rest.now c.split_at.result.1.now some c.numbers.invariant.left after;
      writing =
          IsWriting-more _ _ _ _ c.write_number.new.out _ (c.numbers.to + c.width-to.result) _ (number_octets other number) (flat_map (other_octets wide) (numbers_of w (c.numbers.left - 1) c.split_at.result.1.now))
          c.numbers.invariant.writing
          (other_octets-split wide c.numbers.left c.numbers.rest.now c.split_at.result.1.now some after)
          (c.write_number.ensures
          ∙ ap (λ n. take c.numbers.to c.numbers.out ++ number_octets other n ++ drop (c.numbers.to + other) c.numbers.out) asn
          ∙ ap (λ n. take c.numbers.to c.numbers.out ++ number_octets other number ++ drop (c.numbers.to + n) c.numbers.out) (sym len))
          (omega (arith, c.width-to.ensures, len));
    }

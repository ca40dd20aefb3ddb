use Rattle.std.proofs.Common.{◌∙◌, ap, ◌<◌, drop, arith}
use Rattle.bgp_attr.specs.Paths.{width_of}
use Rattle.bgp_path.proofs.NumbersLemmas.{list_any-numbers_of-rest, length-numbers_rest}
use Rattle.bgp_path.proofs.numbers.has_number.Goals as goal

pub numbers-preserved : goal.numbers-preserved
numbers-preserved c =
    let w = width_of c.args.wide in
    let some : 0 < c.numbers.left = omega arith in
    let after = c.split_at.ensures.back ∙ ap (λ n. drop n c.numbers.rest.now) c.width.ensures in
    record {
      left = length-numbers_rest w c.numbers.left c.numbers.rest.now c.split_at.result.1.now some c.numbers.invariant.left after;
      same =
          list_any-numbers_of-rest w c.numbers.left c.args.asn c.numbers.rest.now c.split_at.result.1.now some (λ e. c.if-number_at_front-asn.false (c.number_at_front.ensures ∙ e)) after
          ∙ c.numbers.invariant.same;
    }

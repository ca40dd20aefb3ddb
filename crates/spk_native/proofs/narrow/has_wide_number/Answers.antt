use Rattle.std.proofs.Common.{◌≡◌, ◌<◌, true, sym, ap, ◌∙◌, arith}
use Rattle.xb_words.specs.Octets.{four_at}
use Rattle.bgp_path.specs.Widths.{is_narrow}
use Rattle.bgp_path.proofs.NumbersLemmas.{length-numbers_rest}
use Rattle.spk_native.proofs.NarrowLemmas.{list_any-wide-rest}
use Rattle.spk_native.proofs.narrow.has_wide_number.Goals as goal

pub numbers-preserved : goal.numbers-preserved
numbers-preserved c =
    let s = c.numbers.rest.now in
    let t = c.split_at.result.1.now in
    let some : 0 < c.numbers.left = omega arith in
    let small : is_narrow (four_at s 0) ≡ true =
    sym (c.is_narrow.ensures ∙ ap is_narrow c.u32_at.ensures) ∙ c.if-not-is_narrow.false in
    record {
      left = length-numbers_rest 4 c.numbers.left s t some c.numbers.invariant.left c.split_at.ensures.back;
      same = list_any-wide-rest c.numbers.left s t some small c.split_at.ensures.back ∙ c.numbers.invariant.same;
    }

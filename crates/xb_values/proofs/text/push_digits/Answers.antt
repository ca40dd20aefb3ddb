use Rattle.std.proofs.Common.{◌∙◌, arith}
use Rattle.xb_values.proofs.DigitsLemmas.{digits_of_eight}
use Rattle.xb_values.proofs.text.push_digits.Goals as goal

pub eights-preserved : goal.eights-preserved
eights-preserved c =
    let kept = c.eights.invariant in
    let more = digits_of_eight c.eights.out c.push_eight.new.out c.eights.rest.now c.in-len8-up.len_at_least c.push_eight.ensures in
    record { octets = more.0 ∙ kept.octets; capacity = more.1 ∙ kept.capacity; fits = omega (arith, more.2, kept.fits, more.1) }

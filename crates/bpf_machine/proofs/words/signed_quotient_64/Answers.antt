use Rattle.std.proofs.Common.{refl, w64}
use Rattle.std.proofs.lemmas.Bool.{ne_eqb}
use Rattle.bpf_machine.proofs.WordLemmas.{signed-wrapping_div}
use Rattle.bpf_machine.proofs.words.signed_quotient_64.Goals as goal

pub returns : goal.returns
returns c =
    rw (ne_eqb c.args.y 0 c.if-y-eq0.false)
    (signed-wrapping_div w64 c.args.x c.args.y c.cast_signed.result c.cast_signed-2.result c.wrapping_div.result c.cast_unsigned.result refl c.ranges.x.fits c.ranges.y.fits
    c.cast_signed.ensures c.cast_signed-2.ensures c.wrapping_div.ensures c.cast_unsigned.ensures)

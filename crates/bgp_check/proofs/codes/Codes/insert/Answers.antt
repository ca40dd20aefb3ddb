use Rattle.std.proofs.Common.{◌≡◌, length, arith, rules}
use Rattle.bgp_check.proofs.CodesLemmas.{has_bit-with_bit}
use Rattle.bgp_check.proofs.codes.Codes.insert.Goals as goal

pub returns : goal.returns
returns c other small =
    let words = c.args.self.now.words in
    let four : length words ≡ 4 = search rules in
    rw c.from.ensures (has_bit-with_bit words c.args.code other four (omega arith))

use Rattle.std.proofs.Common.{ap, ◌*◌, ◌%◌, ◌^◌}
use Rattle.std.specs.Prelude.{bit_xor}
use Rattle.section_map.specs.Sums.{mixed}
use Rattle.section_map.specs.declared.sum.TheConstants.{FACTOR}
use Rattle.section_map.proofs.sum.mix.Goals as goal

pub returns : goal.returns
unfolding mixed
returns c = ap (λ turned. (bit_xor turned c.args.number * FACTOR) % 2 ^ 64) c.rotate_left.ensures

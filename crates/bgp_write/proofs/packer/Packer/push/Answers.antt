use Rattle.std.proofs.Common.{arith}
use Rattle.xb_values.specs.Prefixes.{prefix_octets}
use Rattle.bgp_write.proofs.PackingLemmas.{is_grown}
use Rattle.bgp_write.proofs.packer.Packer.push.Goals as goal

pub invariant_of-self-2 : goal.invariant_of-self-2
invariant_of-self-2 c = record {
  sound = is_grown _ _ c.args.self.now.out.now _ (prefix_octets c.args.prefix) c.args.self.now.sound (rw c.tail.ensures at c.insert.ensures)
      (omega (arith, c.size_of_prefix.ensures, c.len.ensures.value, c.if-len-size_of_prefix-gt-MAX_MESSAGE.false));
}

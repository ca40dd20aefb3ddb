use Rattle.std.proofs.Common.{arith, ◌≡◌, ◌∙◌, ap, ◌+◌, ◌≤◌, length}
use Rattle.bpf_mem.proofs.PartLemmas.{length-overwritten, zeros-overwritten}
use Rattle.bpf_mem.proofs.room.Room.write.Goals as goal

pub invariant_of-self : goal.invariant_of-self
invariant_of-self c =
    let os = c.self.inside.octets in
    let at = c.args.at in
    let octets = c.args.octets.now in
    let size : length os.items ≡ 8704 = c.self.invariant.0 in
    let len : os.len ≡ length os.items = omega (arith, os.ok, size) in
    let same : length os.items ≡ length c.args.self.now = ap (λ l. length l) c.self.view_is in
    let fits : at + length octets ≤ 8704 = omega (arith, c.requires, same, size) in
    rw (len, c.copy_from_slice.ensures.after) (
      length-overwritten os.items at octets ∙ size,
      (fits, zeros-overwritten os.items at c.self.inside.written (at + length octets) 8704 octets size (omega (arith, c.if-written-end.true)) (omega arith) fits c.self.invariant.1.1),
    )

pub invariant_of-self-else-written-end : goal.invariant_of-self-else-written-end
invariant_of-self-else-written-end c =
    let os = c.self.inside.octets in
    let at = c.args.at in
    let octets = c.args.octets.now in
    let size : length os.items ≡ 8704 = c.self.invariant.0 in
    let len : os.len ≡ length os.items = omega (arith, os.ok, size) in
    let written = c.self.inside.written in
    rw (len, c.copy_from_slice.ensures.after) (
      length-overwritten os.items at octets ∙ size,
      (c.self.invariant.1.0, zeros-overwritten os.items at written written 8704 octets size (omega arith) c.if-written-end.false c.self.invariant.1.0 c.self.invariant.1.1),
    )

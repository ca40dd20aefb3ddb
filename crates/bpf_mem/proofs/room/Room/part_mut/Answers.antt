use Rattle.std.proofs.Common.{arith, ◌≡◌, ◌∙◌, length}
use Rattle.std.proofs.Math.ListN.{drop_of_length-le}
use Rattle.bpf_mem.specs.Offsets.{overwritten}
use Rattle.bpf_mem.proofs.PartLemmas.{length-overwritten}
use Rattle.bpf_mem.proofs.room.Room.part_mut.Goals as goal

pub invariant_of-self-lent : goal.invariant_of-self-lent
invariant_of-self-lent c = λ w.
    let os = c.self.inside.octets in
    let size : length os.items ≡ 8704 = c.self.invariant.0 in
    let len : os.len ≡ length os.items = omega (arith, os.ok, size) in
    let kept : length (overwritten os.items c.args.at w) ≡ 8704 = length-overwritten os.items c.args.at w ∙ size in
    rw len (kept, (omega arith, drop_of_length-le (overwritten os.items c.args.at w) {i = 8704} (omega (arith, kept))))

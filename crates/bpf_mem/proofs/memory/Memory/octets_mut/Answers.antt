use Rattle.std.proofs.Common.{refl}
use Rattle.bpf_mem.proofs.OffsetLemmas.{writable_offset-there, memory_of-lent, writable_at-region_part}
use Rattle.bpf_mem.proofs.OffsetLemmas.{length-region_part}
use Rattle.bpf_mem.proofs.memory.Memory.octets_mut.Goals as goal

pub returns : goal.returns
returns c =
    let os = c.self.inside.room.now in
    let window = c.self.inside.window.now in
    let m = c.args.self.now in
    let size = c.self.invariant.0 in
    let is = c.self.view_is in
    let at = c.unwrap_or-at.result in
    let there = writable_offset-there os window m c.args.addr c.args.len size is c.writable_offset.result at c.writable_offset.ensures c.unwrap_or-at.ensures c.requires in (
      (refl, memory_of-lent os window m c.args.addr c.args.len size is at there),
      record {
        writes_back = tt;
        value = writable_at-region_part os window m c.args.addr c.args.len size is at c.part_mut.result.now there c.part_mut.ensures.value;
        len = length-region_part os window m c.args.addr c.args.len size is at c.part_mut.result.now there c.part_mut.ensures.value;
      },
    )

use Rattle.std.proofs.Common.{rules}
use Rattle.bpf_mem.proofs.OffsetLemmas.{store-written}
use Rattle.bpf_mem.proofs.memory.Memory.store.Goals as goal

pub invariant_of-self : goal.invariant_of-self
invariant_of-self c = (
  (store-written c.self.inside.room.now c.self.inside.window.now c.args.self.now c.args.addr c.args.size c.self.invariant.0 c.self.view_is
      c.writable_offset.result c.unwrap_or-at.result c.args.value c.to_le_bytes.result c.write.new.self
      c.writable_offset.ensures c.unwrap_or-at.ensures (search rules) c.requires c.to_le_bytes.ensures c.write.ensures).0,
  c.self.invariant.1,
)

pub returns-clause-stored : goal.returns-clause-stored
returns-clause-stored c =
    (store-written c.self.inside.room.now c.self.inside.window.now c.args.self.now c.args.addr c.args.size c.self.invariant.0 c.self.view_is
    c.writable_offset.result c.unwrap_or-at.result c.args.value c.to_le_bytes.result c.write.new.self
    c.writable_offset.ensures c.unwrap_or-at.ensures (search rules) c.requires c.to_le_bytes.ensures c.write.ensures).1

use Rattle.xb_values.proofs.BufferLemmas.{set_in_memory}
use Rattle.xb_values.proofs.buf.Buf.set_at.Goals as goal

pub returns : goal.returns
returns c = set_in_memory c.self.inside.memory.items c.self.inside.len c.args.at c.args.byte c.args.self.now c.requires c.self.view_is

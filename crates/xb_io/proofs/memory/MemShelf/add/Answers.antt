use Rattle.std.specs.String.{string_bytes}
use Rattle.xb_io.proofs.MemoryLemmas.{HoldsAlso-insert}
use Rattle.xb_io.proofs.memory.MemShelf.add.Goals as goal

pub returns-clause-held : goal.returns-clause-held
returns-clause-held c =
    rw (← c.self.view_is, ← c.in_ok-name.ensures.ok, ← c.in_ok-octets.ensures.items)
    (HoldsAlso-insert c.self.inside.entries c.insert.new.self (string_bytes c.in_ok-name.name) c.in_ok-octets.octets
    c.in_ok-insert.ensures.updates)

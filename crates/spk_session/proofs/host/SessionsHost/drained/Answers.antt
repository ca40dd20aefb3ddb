use Rattle.spk_session.specs.Hosting.{waits_of}
use Rattle.spk_session.proofs.host.SessionsHost.drained.Goals as goal

pub returns : goal.returns
returns g c =
    rw (← c.self.view_is, ← c.deref-held.ensures)
    (c.is_drained.ensures (waits_of c.deref-held.result.now.frames.items))

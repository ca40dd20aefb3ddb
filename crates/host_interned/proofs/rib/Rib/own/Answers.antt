use Rattle.host_interned.proofs.LivingLemmas.{sound_route}
use Rattle.host_interned.proofs.rib.Rib.own.Goals as goal

pub returns-clause-sound : goal.returns-clause-sound
returns-clause-sound c =
    let r = c.self.inside in
    sound_route r.records r.own c.get.result.now c.self.invariant.sound c.get.ensures.route

use Rattle.std.proofs.Common.{refl}
use Rattle.host_interned.proofs.FollowingLemmas.{goes_both}
use Rattle.host_interned.proofs.ShownLemmas.{ready_same}
use Rattle.host_interned.proofs.WalkLemmas.{clears}
use Rattle.host_interned.proofs.routing.Core.clear_tables.Goals as goal

pub returns : goal.returns
returns c =
    let a = c.args.self.now in
    goes_both c.clear.result _ a _
    (λ shows. clears a c.clear.new.self c.args.peer c.requires.ready shows)
    (λ shows. ready_same a a.engine c.clear.new.self a.received a.route a.exporter c.requires.ready refl shows)
    c.clear.ensures.ok c.clear.ensures.err

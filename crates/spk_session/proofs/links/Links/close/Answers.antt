use Rattle.std.proofs.Common.{ap, List, ℕ, ◌-◌, true}
use Rattle.std.specs.Vec.{with_item}
use Rattle.spk_session.proofs.links.Links.close.Goals as goal

-- src/links.rt:141:5
pub returns : goal.returns
returns c =
    let l = c.args.self.now in
    let i = c.args.peer - 1 in
    ap (λ (x : List ℕ). record l { rests = with_item l.rests i x; dropped = with_item l.dropped i true })
    c.clear.ensures

use Rattle.std.proofs.Common.{◌≡◌, ℕ, ap, arith}
use Rattle.xb_values.specs.Buffers.{Buffer}
use Rattle.bgp_write.specs.Pending.{form}
use Rattle.spk_model.specs.Routing.{tables_of}
use Rattle.spk_session.proofs.TellLemmas.{tells-formed, tells-capacity}
use Rattle.spk_session.proofs.links.Rest.form.Goals as goal

pub returns-clause-formed : goal.returns-clause-formed
returns-clause-formed g c =
    let old = g.R.Routes.routing c.args.routes.now in
    let p = c.args.peer in
    tells-formed (form g.R.Routes.RULE (tables_of old p).adv (tables_of old p).told) p old
    (g.R.Routes.routing c.next_message.new.self) c.clear.new.self c.next_message.new.out c.next_message.result
    c.args.self.now (ap (λ (b : Buffer). b.octets) c.clear.ensures) c.requires.empty c.next_message.ensures.tells

pub invariant_of-self : goal.invariant_of-self
invariant_of-self g c =
    let old = g.R.Routes.routing c.args.routes.now in
    let p = c.args.peer in
    let kept : c.next_message.new.out.capacity ≡ c.clear.new.self.capacity =
    tells-capacity (form g.R.Routes.RULE (tables_of old p).adv (tables_of old p).told) p old
    (g.R.Routes.routing c.next_message.new.self) c.clear.new.self c.next_message.new.out c.next_message.result
    c.next_message.ensures.tells in
    let first : c.clear.new.self.capacity ≡ c.self.inside.message.capacity =
    ap (λ (b : Buffer). b.capacity) c.clear.ensures in
    (omega (arith, kept, first, c.self.invariant.0), omega arith)

use Rattle.std.proofs.Common.{◌≡◌, ◌<◌, ◌≤◌, ◌∙◌, ap, ℕ, length, subst, true}
use Rattle.xb_domain.specs.declared.output.Packing.TheVariants.{Grouped}
use Rattle.bgp_write.specs.Pending.{form}
use Rattle.spk_model.specs.Routing.{tables_of}
use Rattle.spk_session.specs.Routed.{waiting, Tells}
use Rattle.host_interned.specs.Meaning.{routing_of, Seen}
use Rattle.host_interned.proofs.InternedLemmas.{peers_seen}
use Rattle.host_interned.proofs.interned.InternedRoutesRoutes.next_message.Goals as goal

pub next_message-requires-clause-most : goal.next_message-requires-clause-most
next_message-requires-clause-most c =
    subst (λ (n : ℕ). c.args.peer ≤ n) (peers_seen c.self.inside.core c.args.self.now c.self.view_is) c.requires.peer.1

pub invariant_of-self : goal.invariant_of-self
invariant_of-self c = c.next_message.ensures.ready

pub returns-clause-setup : goal.returns-clause-setup
returns-clause-setup c = c.next_message.ensures.setup ∙ ap (λ (x : Seen). x.setup) c.self.view_is

pub returns-clause-tells : goal.returns-clause-tells
returns-clause-tells c =
    subst (λ (x : Seen). Tells
    (form Grouped (tables_of x.routing c.args.peer).adv (tables_of x.routing c.args.peer).told) c.args.peer x.routing
    (routing_of c.next_message.new.self) c.args.out.now c.next_message.new.out c.next_message.result)
    c.self.view_is c.next_message.ensures.tells

pub returns-clause-less : goal.returns-clause-less
returns-clause-less c =
    subst (λ (x : Seen). c.next_message.result ≡ true
    → length (waiting (routing_of c.next_message.new.self) c.args.peer) < length (waiting x.routing c.args.peer))
    c.self.view_is c.next_message.ensures.less

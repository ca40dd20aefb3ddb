use Rattle.std.proofs.Common.{ap, ◌∙◌}
use Rattle.xb_values.specs.Buffers.{Buffer}
use Rattle.bgp_write.proofs.MessageLemmas.{is_message_along}
use Rattle.bgp_write.proofs.PackingLemmas.{sealed-packed_message, sealed_is_message}
use Rattle.bgp_write.proofs.packer.Packer.finish.Goals as goal

pub returns-clause-written : goal.returns-clause-written
returns-clause-written c =
    c.seal.ensures ∙ ap (λ o. record c.args.self.out.now { octets = o }) (sealed-packed_message c.args.self.withdraws c.args.self.start c.args.self.out.now c.args.self.sound)

pub returns-clause-message : goal.returns-clause-message
returns-clause-message c =
    is_message_along _ _ (ap (λ (b : Buffer). b.octets) c.seal.ensures) (sealed_is_message c.args.self.withdraws c.args.self.start c.args.self.out.now c.args.self.sound)

use Rattle.std.proofs.Common.{rules, ◌≡◌, Some}
use Rattle.xb_wire.specs.Messages.{message_size}
use Rattle.xb_wire.proofs.MessageLemmas.{HasMessageLength-size}
use Rattle.xb_wire.proofs.FrontLemmas.{whole_at_front}
use Rattle.xb_wire.proofs.front.front_of.Goals as goal

pub returns-clause-front : goal.returns-clause-front
returns-clause-front c =
    let size : message_size c.args.octets.now ≡ Some c.u16_at-len.result = search rules in
    whole_at_front c.args.octets.now c.u16_at-len.result size

pub returns-clause-sized : goal.returns-clause-sized
returns-clause-sized c =
    let size : message_size c.args.octets.now ≡ Some c.u16_at-len.result = search rules in
    HasMessageLength-size c.args.octets.now c.u16_at-len.result size

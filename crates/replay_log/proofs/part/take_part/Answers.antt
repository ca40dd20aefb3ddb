use Rattle.std.proofs.Common.{rules, ◌≡◌, ◌==◌, Some, None, position}
use Rattle.replay_log.proofs.PartLemmas.{takes-last, takes-long_last, takes-whole, takes-long_whole}
use Rattle.replay_log.proofs.part.take_part.Goals as goal

pub returns-then-push-clause-takes : goal.returns-then-push-clause-takes
returns-then-push-clause-takes c =
    let found : position (λ o. o == 10) c.args.octets.now ≡ Some c.in-Some.at = search rules in
    takes-last c.args.octets.now c.args.line.now c.push.new.self c.requires.short c.requires.room c.in-Some.at found c.if-push.ensures

pub returns-else-push-clause-takes : goal.returns-else-push-clause-takes
returns-else-push-clause-takes c =
    let found : position (λ o. o == 10) c.args.octets.now ≡ Some c.in-Some.at = search rules in
    takes-long_last c.args.octets.now c.args.line.now c.push.new.self c.requires.short c.requires.room c.in-Some.at found c.if-push.ensures

pub returns-then-push-2-clause-takes : goal.returns-then-push-2-clause-takes
returns-then-push-2-clause-takes c =
    let none : position (λ o. o == 10) c.args.octets.now ≡ None = search rules in
    takes-whole c.args.octets.now c.args.line.now c.push-in-None.new.self c.requires.short c.requires.room _ (search rules) none c.if-push-2.ensures

pub returns-else-push-2-clause-takes : goal.returns-else-push-2-clause-takes
returns-else-push-2-clause-takes c =
    let none : position (λ o. o == 10) c.args.octets.now ≡ None = search rules in
    takes-long_whole c.args.octets.now c.args.line.now c.push-in-None.new.self c.requires.short c.requires.room none c.if-push-2.ensures

use Rattle.std.proofs.Common.{rules, ◌≡◌, [], length, sym, ◌∙◌}
use Rattle.bgp_update.proofs.WalkLemmas.{messages_nil}
use Rattle.bgp_update.proofs.messages.Messages.next.Goals as goal

pub returns-then-is_empty-clause-end : goal.returns-then-is_empty-clause-end
returns-then-is_empty-clause-end c =
    let none : length c.self.inside.rest.now ≡ 0 = search rules in
    let nothing : c.args.self.now ≡ [] = sym c.self.view_is ∙ messages_nil c.self.inside.at c.self.inside.rest.now none in
    (nothing, nothing)

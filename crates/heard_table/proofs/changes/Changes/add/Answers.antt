use Rattle.std.proofs.Common.{◌≡◌, length, rules, sym, ◌∙◌}
use Rattle.std.proofs.lemmas.Bool.{eqb-true}
use Rattle.std.proofs.lemmas.Result.{IfOk-weaker}
use Rattle.bgp_update.specs.Walks.{prefixes_from}
use Rattle.heard_table.proofs.ListedLemmas.{change_each-empty, change_each-whole}
use Rattle.heard_table.proofs.changes.Changes.add.Goals as goal

pub returns-then-is_empty : goal.returns-then-is_empty
returns-then-is_empty c =
    change_each-empty c.args.octets.now c.args.becomes c.args.self.now
    (eqb-true (length c.args.octets.now) 0 (sym c.is_empty.ensures ∙ c.if-is_empty.true))

pub returns : goal.returns
returns c =
    let last : c.len-part.result ≡ length c.self.inside.parts.items = search rules in
    rw (c.in_ok-push.ensures.items, ← c.self.view_is) (
    IfOk-weaker c.list_prefixes.result _ _
    (λ whole is. change_each-whole c.self.inside.parts.items c.args.becomes (prefixes_from c.args.octets.now)
    c.self.inside.list.items c.list_prefixes.new.list.items whole c.self.invariant.below (rw last at is))
    c.list_prefixes.ensures.listed
    )

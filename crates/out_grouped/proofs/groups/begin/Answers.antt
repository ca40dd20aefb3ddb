use Rattle.std.proofs.Common.{Result, Ok, Err, OnErr, OnOk, List, Some, sym, ◌∙◌, ap}
use Rattle.std.specs.BTreeSet.{insert_key}
use Rattle.xb_values.specs.Prefixes.{Prefix, prefix_cmp}
use Rattle.out_grouped.specs.Groups.{members}
use Rattle.out_grouped.proofs.GroupLemmas.{group_at-updated}
use Rattle.out_grouped.proofs.groups.begin.Goals as goal

on_ok : {T E : Type 0} (P Q : Type 0) (r : Result T E) → (P → Q) → OnOk r P → OnOk r Q
on_ok P Q (Ok v) f p = f p
on_ok P Q (Err e) f p = tt

on_err : {T E : Type 0} (P Q : Type 0) (r : Result T E) → (P → Q) → OnErr r P → OnErr r Q
on_err P Q (Ok v) f p = tt
on_err P Q (Err e) f p = f p

pub returns-clause-ok : goal.returns-clause-ok
returns-clause-ok c =
    let old = c.args.groups.now in
    let group = c.insert.new.self in
    let one = c.in_ok-insert.ensures.keys
    ∙ ap (λ (ks : List Prefix). insert_key prefix_cmp ks c.args.prefix)
    (c.new-group.ensures.empty ∙ sym (ap members c.requires)) in
    on_ok _ _ c.insert-2.result
    (λ changes.
    group_at-updated (λ ks. insert_key prefix_cmp ks c.args.prefix) old c.insert-2.new.self c.args.section.now
    (Some group) changes one)
    c.insert-2.ensures.ok

pub returns-clause-err : goal.returns-clause-err
returns-clause-err c = on_err _ _ c.insert-2.result (λ same t. ap members (same t)) c.insert-2.ensures.err

use Rattle.std.proofs.Common.{◌≤◌, sym, subst, ap, ℕ}
use Rattle.xb_words.specs.Table.{without}
use Rattle.xb_values.specs.Prefixes.{prefix_cmp}
use Rattle.spk_model.specs.Routing.{without_all}
use Rattle.host_interned.specs.Ribs.{tables_in}
use Rattle.host_interned.proofs.RemovedLemmas.{all_removed, left_then, none_removed, removal_then, sent_count}
use Rattle.host_interned.proofs.rib.Rib.remove_all.Goals as goal

pub prefixes-init : goal.prefixes-init
prefixes-init c = record {
  shows = none_removed c.args.self.now c.args.peer;
  left = ap (without_all (tables_in c.args.self.now c.args.peer).adjin) c.new-rest.ensures;
}

pub remove-requires-clause-most : goal.remove-requires-clause-most
remove-requires-clause-most c =
    subst (λ (n : ℕ). c.args.peer ≤ n)
    (sym (sent_count c.args.self.now c.args.peer c.requires.least c.requires.most c.prefixes.self
    (tables_in c.prefixes.self c.args.peer).adjin c.prefixes.invariant.shows.tables_are)) c.requires.most

pub prefixes-preserved : goal.prefixes-preserved
prefixes-preserved c =
    let v = c.args.self.now in
    let s = c.prefixes.self in
    let p = c.args.peer in
    record {
      shows = removal_then v p c.requires.least c.requires.most s c.remove.new.self (tables_in s p).adjin
          (without prefix_cmp (tables_in s p).adjin c.in-Some.prefix) c.prefixes.invariant.shows c.remove.ensures;
      left = left_then v p c.requires.least c.requires.most s c.remove.new.self c.in-Some.prefix
          c.prefixes.invariant.shows c.remove.ensures c.prefixes.rest c.next.new.self _ c.in-Some.ensures.first
          c.prefixes.invariant.left;
    }

pub returns : goal.returns
returns c =
    all_removed c.args.self.now c.prefixes.self c.args.peer c.prefixes.rest _ c.prefixes.invariant.shows
    c.in_default.ensures.end.0 c.prefixes.invariant.left

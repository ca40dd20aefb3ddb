use Rattle.std.proofs.Common.{◌≤◌, sym, subst, ℕ}
use Rattle.xb_words.specs.Table.{without}
use Rattle.xb_values.specs.Prefixes.{prefix_cmp}
use Rattle.xbgp_view.specs.Views.{Routes}
use Rattle.host_interned.specs.Ribs.{tables_in, with_sent, Shows}
use Rattle.host_interned.proofs.RemovedLemmas.{no_routes, none_removed, removal_then, sent_count}
use Rattle.host_interned.proofs.rib.Rib.remove_each.Goals as goal

pub prefixes-init : goal.prefixes-init
prefixes-init c = none_removed c.args.self.now c.args.peer

pub first_sent-requires-clause-most : goal.first_sent-requires-clause-most
first_sent-requires-clause-most c =
    subst (λ (n : ℕ). c.args.peer ≤ n)
    (sym (sent_count c.args.self.now c.args.peer c.requires.least c.requires.most c.prefixes.self
    (tables_in c.prefixes.self c.args.peer).adjin c.prefixes.invariant.tables_are)) c.requires.most

pub remove-requires-clause-most : goal.remove-requires-clause-most
remove-requires-clause-most c =
    subst (λ (n : ℕ). c.args.peer ≤ n)
    (sym (sent_count c.args.self.now c.args.peer c.requires.least c.requires.most c.prefixes.self
    (tables_in c.prefixes.self c.args.peer).adjin c.prefixes.invariant.tables_are)) c.requires.most

pub prefixes-preserved : goal.prefixes-preserved
prefixes-preserved c =
    removal_then c.args.self.now c.args.peer c.requires.least c.requires.most c.prefixes.self c.remove.new.self
    (tables_in c.prefixes.self c.args.peer).adjin
    (without prefix_cmp (tables_in c.prefixes.self c.args.peer).adjin c.in-Some.prefix) c.prefixes.invariant
    c.remove.ensures

pub returns : goal.returns
returns c =
    subst (λ (r : Routes). Shows c.args.self.now.own c.args.self.now.best (with_sent c.args.self.now c.args.peer r)
    c.prefixes.self)
    (no_routes (tables_in c.prefixes.self c.args.peer).adjin c.in_default.ensures.prefix) c.prefixes.invariant

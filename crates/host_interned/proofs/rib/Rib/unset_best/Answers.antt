use Rattle.std.proofs.Common.{subst, arith}
use Rattle.xb_words.specs.Table.{without}
use Rattle.xb_values.specs.Prefixes.{prefix_cmp}
use Rattle.host_interned.specs.Ribs.{rib_of, times_held, RibView, Shows}
use Rattle.host_interned.proofs.HeldLemmas.{chosen_live}
use Rattle.host_interned.proofs.KeptLemmas.{removed_best}
use Rattle.host_interned.proofs.rib.Rib.unset_best.Goals as goal

pub remove_chosen-requires-clause-all : goal.remove_chosen-requires-clause-all
remove_chosen-requires-clause-all c =
    let r = c.self.inside in
    chosen_live r.records (λ id. times_held id r.own r.best r.peers.items) r.best c.self.invariant.owned
    (λ k. omega (arith))

pub invariant_of-self : goal.invariant_of-self
invariant_of-self c =
    let r = c.self.inside in
    let e = c.remove_chosen.ensures in
    (removed_best r.records c.remove_chosen.new.records r.own r.best c.remove_chosen.new.best r.peers.items
    c.args.prefix c.self.invariant e.best e.records e.rising e.pooled).kept

pub returns : goal.returns
returns c =
    let r = c.self.inside in
    let e = c.remove_chosen.ensures in
    subst (λ (v : RibView). Shows v.own (without prefix_cmp v.best c.args.prefix) v.tables
    (rib_of c.remove_chosen.new.records r.own c.remove_chosen.new.best r.peers.items)) c.self.view_is
    (removed_best r.records c.remove_chosen.new.records r.own r.best c.remove_chosen.new.best r.peers.items
    c.args.prefix c.self.invariant e.best e.records e.rising e.pooled).shows

use Rattle.xb_words.specs.Table.{with_value}
use Rattle.xb_values.specs.Prefixes.{Sections, prefix_cmp}
use Rattle.std.proofs.lemmas.Result.{on_ok_weaker}
use Rattle.host_interned.specs.Ribs.{tables_in}
use Rattle.host_interned.proofs.KeptLemmas.{adv_same, out_shows}
use Rattle.host_interned.proofs.rib.Rib.advertise.Goals as goal

pub returns-clause-ok : goal.returns-clause-ok
returns-clause-ok c =
    let r = c.self.inside in
    let v = c.args.self.now in
    let f : Sections → Sections = λ adv. with_value prefix_cmp adv c.args.prefix c.args.section.now in
    on_ok_weaker c.set.result
    (λ is. out_shows r.records r.own r.best r.peers.items v c.args.peer c.index_mut.result.now c.self.view_is
    c.requires.least c.requires.most c.index_mut.ensures.value c.set.new.self
    (record (tables_in v c.args.peer) { adv = f (tables_in v c.args.peer).adv })
    (adv_same r.records r.own r.best r.peers.items v c.args.peer c.index_mut.result.now c.self.view_is c.requires.least
    c.requires.most c.index_mut.ensures.value c.set.new.self f is))
    c.set.ensures.ok

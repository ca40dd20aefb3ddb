use Rattle.xb_words.specs.Table.{without}
use Rattle.xb_values.specs.Prefixes.{Sections, prefix_cmp}
use Rattle.host_interned.specs.Ribs.{tables_in}
use Rattle.host_interned.proofs.KeptLemmas.{adv_same, out_shows}
use Rattle.host_interned.proofs.rib.Rib.retract.Goals as goal

pub returns : goal.returns
returns c =
    let r = c.self.inside in
    let v = c.args.self.now in
    let f : Sections → Sections = λ adv. without prefix_cmp adv c.args.prefix in
    out_shows r.records r.own r.best r.peers.items v c.args.peer c.index_mut.result.now c.self.view_is
    c.requires.least c.requires.most c.index_mut.ensures.value c.unset.new.self
    (record (tables_in v c.args.peer) { adv = f (tables_in v c.args.peer).adv })
    (adv_same r.records r.own r.best r.peers.items v c.args.peer c.index_mut.result.now c.self.view_is c.requires.least
    c.requires.most c.index_mut.ensures.value c.unset.new.self f c.unset.ensures)

use Rattle.std.proofs.Common.{sym, subst, length, ◌<◌}
use Rattle.std.specs.Bool.{OnTrue}
use Rattle.xb_values.specs.Prefixes.{Sections}
use Rattle.xb_domain.specs.declared.output.Packing.TheVariants.{Grouped}
use Rattle.bgp_write.specs.Pending.{form, pending}
use Rattle.out_grouped.specs.Told.{told_after}
use Rattle.spk_model.specs.Routing.{Tables}
use Rattle.host_interned.specs.declared.tables.PeerTables.{PeerTables}
use Rattle.host_interned.specs.Ribs.{tables_by, tables_in}
use Rattle.host_interned.proofs.KeptLemmas.{told_same, out_shows, peer_seen, peer_written}
use Rattle.host_interned.proofs.rib.Rib.next_message.Goals as goal

pub returns-clause-told : goal.returns-clause-told
returns-clause-told c =
    let r = c.self.inside in
    let v = c.args.self.now in
    let f : Sections → Sections → Sections = λ adv told. told_after (form Grouped adv told) told in
    out_shows r.records r.own r.best r.peers.items v c.args.peer c.index_mut.result.now c.self.view_is
    c.requires.least c.requires.most c.index_mut.ensures.value c.next_message.new.self
    (record (tables_in v c.args.peer) { told = f (tables_in v c.args.peer).adv (tables_in v c.args.peer).told })
    (told_same r.records r.own r.best r.peers.items v c.args.peer c.index_mut.result.now c.self.view_is c.requires.least
    c.requires.most c.index_mut.ensures.value c.next_message.new.self f c.next_message.ensures.told)

pub returns-clause-less : goal.returns-clause-less
returns-clause-less c =
    let r = c.self.inside in
    let v = c.args.self.now in
    let t = c.index_mut.result.now in
    let new : PeerTables = record { sent = t.sent; out = c.next_message.new.self } in
    let seen = peer_seen r.records r.own r.best r.peers.items v c.args.peer t c.self.view_is c.requires.least
    c.requires.most c.index_mut.ensures.value in
    let written = peer_written r.records r.own r.best r.peers.items v c.args.peer t c.self.view_is c.requires.least
    c.requires.most c.index_mut.ensures.value new in
    subst (λ (x : Tables). OnTrue c.next_message.result (length (pending x.adv x.told)
    < length (pending (tables_in v c.args.peer).adv (tables_in v c.args.peer).told))) (sym written)
    (subst (λ (x : Tables). OnTrue c.next_message.result
    (length (pending (tables_by r.records new).adv (tables_by r.records new).told) < length (pending x.adv x.told)))
    (sym seen) c.next_message.ensures.less)

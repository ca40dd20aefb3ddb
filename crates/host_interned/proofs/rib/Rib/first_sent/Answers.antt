use Rattle.std.proofs.Common.{sym, subst, ◌≡◌, ◌∙◌, None}
use Rattle.std.specs.Option.{option_map}
use Rattle.xb_words.specs.Table.{entry_after, IsRising}
use Rattle.xb_values.specs.Prefixes.{prefix_cmp}
use Rattle.spk_model.specs.Routing.{Tables}
use Rattle.host_interned.specs.Ribs.{meant}
use Rattle.host_interned.proofs.MappedLemmas.{next_key-mapped, rising-mapped}
use Rattle.host_interned.proofs.KeptLemmas.{peer_seen}
use Rattle.host_interned.proofs.rib.Rib.first_sent.Goals as goal

pub returns-clause-prefix : goal.returns-clause-prefix
returns-clause-prefix c =
    let r = c.self.inside in
    let t = c.index.result.now in
    subst (λ (x : Tables). c.after.result ≡ option_map (λ e. e.0) (entry_after prefix_cmp x.adjin None))
    (sym (peer_seen r.records r.own r.best r.peers.items c.args.self.now c.args.peer t c.self.view_is c.requires.least
    c.requires.most c.index.ensures))
    (c.after.ensures.prefix ∙ sym (next_key-mapped prefix_cmp (meant r.records) t.sent None))

pub returns-clause-rising : goal.returns-clause-rising
returns-clause-rising c =
    let r = c.self.inside in
    let t = c.index.result.now in
    subst (λ (x : Tables). IsRising prefix_cmp x.adjin)
    (sym (peer_seen r.records r.own r.best r.peers.items c.args.self.now c.args.peer t c.self.view_is c.requires.least
    c.requires.most c.index.ensures))
    (rising-mapped prefix_cmp (meant r.records) t.sent c.after.ensures.rising)

use Rattle.std.proofs.Common.{List, ◌∙◌, sym, ap}
use Rattle.std.specs.Map.{keys_of}
use Rattle.std.proofs.lemmas.Result.{on_ok_weaker}
use Rattle.xb_words.specs.Table.{with_keys}
use Rattle.xb_values.specs.Prefixes.{Prefix, prefix_cmp}
use Rattle.spk_model.specs.Routing.{Tables}
use Rattle.host_interned.proofs.KeptLemmas.{peer_seen}
use Rattle.host_interned.proofs.KnownLemmas.{keys_shown}
use Rattle.host_interned.proofs.rib.Rib.add_sent.Goals as goal

pub returns : goal.returns
returns c =
    let r = c.self.inside in
    let t = c.index.result.now in
    let seen = peer_seen r.records r.own r.best r.peers.items c.args.self.now c.args.peer t c.self.view_is
    c.requires.least c.requires.most c.index.ensures in
    on_ok_weaker c.add_sent.result
    (λ is. is ∙ ap (λ (ks : List Prefix). with_keys prefix_cmp c.args.set.now ks)
    (sym (ap (λ (x : Tables). keys_of x.adjin) seen ∙ keys_shown r.records t.sent)))
    c.add_sent.ensures

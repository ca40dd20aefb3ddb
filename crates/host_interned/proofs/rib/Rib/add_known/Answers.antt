use Rattle.std.proofs.Common.{List, ◌∙◌, sym, ap, flat_map}
use Rattle.std.proofs.lemmas.Result.{on_ok_weaker}
use Rattle.xb_words.specs.Table.{with_keys}
use Rattle.xb_values.specs.Prefixes.{Prefix, prefix_cmp}
use Rattle.host_interned.specs.declared.tables.PeerTables.{PeerTables}
use Rattle.host_interned.specs.Ribs.{RibView}
use Rattle.host_interned.proofs.KnownLemmas.{known_by, known_in, known_shown}
use Rattle.host_interned.proofs.rib.Rib.add_known.Goals as goal

pub returns : goal.returns
returns c =
    let r = c.self.inside in
    on_ok_weaker c.add_all_known.result
    (λ is. is
    ∙ ap (λ (ts : List PeerTables). with_keys prefix_cmp c.args.set.now (flat_map known_by ts)) c.deref.ensures.value
    ∙ ap (λ (ks : List Prefix). with_keys prefix_cmp c.args.set.now ks)
    (sym (sym (ap (λ (v : RibView). flat_map known_in v.tables) c.self.view_is) ∙ known_shown r.records r.peers.items)))
    c.add_all_known.ensures

use Rattle.std.proofs.Common.{◌≡◌, ◌∙◌, ◌+◌, ◌∷◌, sym, ap, refl, ℕ, List, drop}
use Rattle.std.proofs.lemmas.List.{at_drop_more, drop_all}
use Rattle.xb_values.specs.Prefixes.{Prefix}
use Rattle.spk_model.specs.Routing.{export}
use Rattle.host_interned.proofs.FollowingLemmas.{does_first, does_none, does_peers, does_all}
use Rattle.host_interned.proofs.routing.Core.export_all.Goals as goal

pub prefixes-init : goal.prefixes-init
prefixes-init c = record { ready = c.requires.ready; peers = refl; comes = λ end d. d }

pub prefixes-preserved : goal.prefixes-preserved
prefixes-preserved c =
    let d = c.in_ok-export.ensures in
    let i : ℕ = c.prefixes.prefix-index in
    let items : List Prefix = c.deref-prefix-items.result.now in
    let first : drop i items ≡ c.prefix-item.result ∷ drop (i + 1) items =
    at_drop_more (λ l. l) items i c.prefix-item.result c.prefixes-test.true
    ∙ ap (λ x. x ∷ drop (i + 1) items) (sym c.prefix-item.is) in
    record {
      ready = d.ready;
      peers = does_peers _ c.prefixes.self c.export.new.self d ∙ c.prefixes.invariant.peers;
      comes = λ end rest. c.prefixes.invariant.comes end
          (does_first (λ setup u q. export setup c.args.sessions.now q u c.args.peer) c.prefix-item.result
          (drop i items)
          (drop (i + 1) items) c.prefixes.self c.export.new.self end first d rest);
    }

pub returns : goal.returns
returns c =
    let items : List Prefix = c.deref-prefix-items.result.now in
    does_all c.args.self.now c.prefixes.self c.args.sessions.now c.args.peer items
    (c.deref-prefix-items.ensures.value ∙ c.in_ok-prefixes.ensures)
    (c.prefixes.invariant.comes c.prefixes.self
    (does_none (λ setup u q. export setup c.args.sessions.now q u c.args.peer) (drop c.prefixes.prefix-index items)
    c.prefixes.self (drop_all c.prefixes.prefix-index items c.prefixes-test.false) c.prefixes.invariant.ready))

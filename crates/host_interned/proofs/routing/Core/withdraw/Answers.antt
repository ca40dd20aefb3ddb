use Rattle.std.proofs.Common.{◌∙◌, sym, ap, List}
use Rattle.std.proofs.Common.{length}
use Rattle.std.proofs.lemmas.Bool.{eqb-true}
use Rattle.xb_words.specs.Table.{with_keys}
use Rattle.xb_values.specs.Prefixes.{Prefix, prefix_cmp, prefixes}
use Rattle.host_interned.proofs.UpdateLemmas.{withdraws, others_same, none_same, no_prefixes}
use Rattle.host_interned.proofs.routing.Core.withdraw.Goals as goal
use Rattle.host_interned.proofs.routing.Core.withdraw.Goals.{then-not-is_empty+in_ok-add_all, else-not-is_empty}

pub returns : goal.returns
returns c u withdrawn_is nlri_is =
    let a = c.args.self.now in
    let p = c.args.peer in
    withdraws a c.remove_others.new.self c.args.sessions.now p u c.args.withdrawn.now c.args.nlri.now
    c.if-not-is_empty.announced c.requires.ready withdrawn_is nlri_is
    (elim c.if-not-is_empty.branch [
      | then-not-is_empty+in_ok-add_all w ↦ others_same c.args.withdrawn.now c.args.nlri.now c.if-not-is_empty.announced
          (w.announced-is ∙ w.in_ok-add_all.ensures
          ∙ ap (λ (s : List Prefix). with_keys prefix_cmp s (prefixes c.args.nlri.now)) c.make-announced.ensures)
      | else-not-is_empty w ↦ none_same c.args.withdrawn.now c.args.nlri.now c.if-not-is_empty.announced
          (no_prefixes c.args.withdrawn.now (eqb-true (length c.args.withdrawn.now) 0 (sym w.if-not-is_empty.ensures)))
    ])
    c.remove_others.ensures

use Rattle.std.proofs.Common.{◌≡◌, ◌≤◌, sym, subst, ap, ◌∙◌, ◌∷◌, ℕ, List, filter}
use Rattle.std.specs.Prelude.{not}
use Rattle.xb_words.specs.Table.{has_key, without}
use Rattle.xb_values.specs.Prefixes.{Prefix, prefix_cmp}
use Rattle.spk_model.specs.Routing.{without_all}
use Rattle.host_interned.specs.Ribs.{tables_in}
use Rattle.host_interned.proofs.RemovedLemmas.{all_removed, left_then, none_removed, removal_then, sent_count}
use Rattle.host_interned.proofs.RemovedLemmas.{other_first, other_not}
use Rattle.host_interned.proofs.rib.Rib.remove_others.Goals as goal

pub prefixes-init : goal.prefixes-init
prefixes-init c = record {
  shows = none_removed c.args.self.now c.args.peer;
  left = ap (λ (ps : List Prefix). without_all (tables_in c.args.self.now c.args.peer).adjin
      (filter (λ p. not (has_key prefix_cmp c.args.set.now p)) ps)) c.new-rest.ensures;
}

pub remove-requires-clause-most : goal.remove-requires-clause-most
remove-requires-clause-most c =
    subst (λ (n : ℕ). c.args.peer ≤ n)
    (sym (sent_count c.args.self.now c.args.peer c.requires.least c.requires.most c.prefixes.self
    (tables_in c.prefixes.self c.args.peer).adjin c.prefixes.invariant.shows.tables_are)) c.requires.most

pub prefixes-preserved-then-not-has : goal.prefixes-preserved-then-not-has
prefixes-preserved-then-not-has c =
    let v = c.args.self.now in
    let s = c.prefixes.self in
    let p = c.args.peer in
    let q = c.in-Some.prefix in
    let others : List Prefix → List Prefix = filter (λ p. not (has_key prefix_cmp c.args.set.now p)) in
    let step : others c.prefixes.rest ≡ q ∷ others c.next.new.self =
    ap others c.in-Some.ensures.first
    ∙ other_first c.args.set.now c.next.new.self q (sym c.has.ensures ∙ c.if-not-has.true) in
    record {
      shows = removal_then v p c.requires.least c.requires.most s c.remove.new.self (tables_in s p).adjin
          (without prefix_cmp (tables_in s p).adjin q) c.prefixes.invariant.shows c.remove.ensures;
      left = left_then v p c.requires.least c.requires.most s c.remove.new.self q c.prefixes.invariant.shows
          c.remove.ensures (others c.prefixes.rest) (others c.next.new.self) _ step c.prefixes.invariant.left;
    }

pub prefixes-preserved : goal.prefixes-preserved
prefixes-preserved c =
    let s = c.prefixes.self in
    let p = c.args.peer in
    let others : List Prefix → List Prefix = filter (λ p. not (has_key prefix_cmp c.args.set.now p)) in
    let step : others c.prefixes.rest ≡ others c.next.new.self =
    ap others c.in-Some.ensures.first
    ∙ other_not c.args.set.now c.next.new.self c.in-Some.prefix (sym c.has.ensures ∙ c.if-not-has.false) in
    record {
      shows = c.prefixes.invariant.shows;
      left = sym (ap (without_all (tables_in s p).adjin) step) ∙ c.prefixes.invariant.left;
    }

pub returns : goal.returns
returns c =
    all_removed c.args.self.now c.prefixes.self c.args.peer
    (filter (λ p. not (has_key prefix_cmp c.args.set.now p)) c.prefixes.rest) _ c.prefixes.invariant.shows
    (ap (filter (λ p. not (has_key prefix_cmp c.args.set.now p))) c.in_default.ensures.end.0)
    c.prefixes.invariant.left

use Rattle.std.proofs.Common.{◌∙◌, sym, ap, Option, eq-eqb}
use Rattle.std.proofs.lemmas.Bool.{ne_eqb}
use Rattle.std.specs.Prelude.{◌==◌}
use Rattle.std.specs.Option.{option_map, unwrap_or}
use Rattle.xbgp_config.specs.declared.lists.CostEntry.{CostEntry}
use Rattle.spk_routes.proofs.StepLemmas.{find-here, find-later}
use Rattle.spk_routes.proofs.sides.cost_in.Goals as goal

pub returns-then-entry-hop : goal.returns-then-entry-hop
returns-then-entry-hop c =
    let x : CostEntry = c.get-entry.result.now in
    ap (λ (o : Option CostEntry). unwrap_or (option_map (λ e. e.cost) o) 0)
    (sym (find-here (λ e. e.next_hop == c.args.hop) c.args.costs.now c.loop-i.i x c.get-entry.ensures
    (eq-eqb x.next_hop c.args.hop c.if-entry-hop.true))
    ∙ c.loop-i.invariant)

pub loop-i-preserved : goal.loop-i-preserved
loop-i-preserved c =
    sym (find-later (λ e. e.next_hop == c.args.hop) c.args.costs.now c.loop-i.i c.get-entry.result.now
    c.get-entry.ensures (ne_eqb c.get-entry.result.now.next_hop c.args.hop c.if-entry-hop.false))
    ∙ c.loop-i.invariant

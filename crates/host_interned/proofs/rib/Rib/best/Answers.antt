use Rattle.std.proofs.Common.{sym, subst, ◌≡◌, ◌∙◌, ap, None, Some, Option, arith}
use Rattle.std.specs.Option.{option_map}
use Rattle.xb_words.specs.Table.{value_at}
use Rattle.xb_values.specs.Prefixes.{prefix_cmp}
use Rattle.bgp_attr.specs.Routes.{Route}
use Rattle.host_interned.specs.Ribs.{route_or, times_held, RibView}
use Rattle.host_interned.proofs.MappedLemmas.{value_at-mapped}
use Rattle.host_interned.proofs.HeldLemmas.{chosen_live, chosen_lives}
use Rattle.host_interned.proofs.KeptLemmas.{best_of_id}
use Rattle.host_interned.proofs.LivingLemmas.{sound_route}
use Rattle.host_interned.proofs.rib.Rib.best.Goals as goal

pub returns-in_err-chosen-clause-value : goal.returns-in_err-chosen-clause-value
returns-in_err-chosen-clause-value c =
    let r = c.self.inside in
    ap (option_map (λ e. record { source = e.0; route = e.1.now })) c.from_residual.ensures
    ∙ subst (λ (v : RibView). None ≡ value_at prefix_cmp v.best c.args.prefix) c.self.view_is
    (ap (option_map (best_of_id r.records)) c.in_err-chosen.ensures.value
    ∙ sym (value_at-mapped prefix_cmp (best_of_id r.records) r.best c.args.prefix))

pub get-requires : goal.get-requires
get-requires c =
    let r = c.self.inside in
    chosen_lives r.records r.best c.args.prefix c.in_ok-chosen.chosen.now
    (chosen_live r.records (λ id. times_held id r.own r.best r.peers.items) r.best c.self.invariant.owned
    (λ k. omega (arith)))
    (sym c.in_ok-chosen.ensures.value)

pub returns-clause-value : goal.returns-clause-value
returns-clause-value c =
    let r = c.self.inside in
    let chosen = c.in_ok-chosen.chosen.now in
    subst (λ (v : RibView). Some (record { source = chosen.source; route = c.get.result.now })
    ≡ value_at prefix_cmp v.best c.args.prefix) c.self.view_is
    (sym (value_at-mapped prefix_cmp (best_of_id r.records) r.best c.args.prefix
    ∙ sym (ap (option_map (best_of_id r.records)) c.in_ok-chosen.ensures.value)
    ∙ ap (λ (x : Option Route). Some (record { source = chosen.source; route = route_or x })) c.get.ensures.route))

pub returns-clause-sound : goal.returns-clause-sound
returns-clause-sound c =
    let r = c.self.inside in
    sound_route r.records c.in_ok-chosen.chosen.now.«record» c.get.result.now c.self.invariant.sound c.get.ensures.route

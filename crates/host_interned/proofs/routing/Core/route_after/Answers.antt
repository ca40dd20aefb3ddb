use Rattle.std.proofs.Common.{◌∙◌, ap, ℕ, Option, Some, None}
use Rattle.std.specs.Option.{option_map}
use Rattle.xb_values.specs.Prefixes.{Prefix, prefix_cmp}
use Rattle.xb_values.proofs.PrefixLemmas.{prefix_total}
use Rattle.bgp_attr.specs.Routes.{canon}
use Rattle.spk_model.specs.Readers.{showing}
use Rattle.spk_model.specs.Routing.{Chosen}
use Rattle.host_interned.proofs.EntryLemmas.{entry_at}
use Rattle.host_interned.proofs.routing.Core.route_after.Goals as goal

abbrev Found : Type 0
Found = Option (Prefix × Chosen)

abbrev sourced : Prefix × Chosen → Prefix × ℕ
sourced e = (e.0, (e.1).source)

pub returns-in_err-source-clause-entry : goal.returns-in_err-source-clause-entry
returns-in_err-source-clause-entry c =
    c.from_residual-in_err-source.ensures
    ∙ ap (option_map sourced)
    (entry_at prefix_cmp prefix_total c.args.self.now.rib.best c.args.after c.in_ok-prefix.prefix None
    c.in_ok-prefix.ensures.rising c.in_ok-prefix.ensures.prefix c.in_err-source.ensures.value)

pub returns-in_err-source-clause-section : goal.returns-in_err-source-clause-section
returns-in_err-source-clause-section c =
    ap (λ (o : Found). showing c.args.section.now (option_map (λ e. canon (e.1).route) o))
    (entry_at prefix_cmp prefix_total c.args.self.now.rib.best c.args.after c.in_ok-prefix.prefix None
    c.in_ok-prefix.ensures.rising c.in_ok-prefix.ensures.prefix c.in_err-source.ensures.value)

pub returns-clause-entry : goal.returns-clause-entry
returns-clause-entry c =
    ap (option_map sourced)
    (entry_at prefix_cmp prefix_total c.args.self.now.rib.best c.args.after c.in_ok-prefix.prefix
    (Some (record { source = c.in_ok-source.source; route = c.in_ok-source.best.now })) c.in_ok-prefix.ensures.rising
    c.in_ok-prefix.ensures.prefix c.in_ok-source.ensures.value)

pub returns-clause-section : goal.returns-clause-section
returns-clause-section c =
    c.write_section.ensures.written
    ∙ ap (λ (o : Found). showing c.args.section.now (option_map (λ e. canon (e.1).route) o))
    (entry_at prefix_cmp prefix_total c.args.self.now.rib.best c.args.after c.in_ok-prefix.prefix
    (Some (record { source = c.in_ok-source.source; route = c.in_ok-source.best.now })) c.in_ok-prefix.ensures.rising
    c.in_ok-prefix.ensures.prefix c.in_ok-source.ensures.value)

use Rattle.std.proofs.Common.{◌≡◌, ◌∙◌, ap, sym, length, arith, ◌+◌}
use Rattle.std.specs.Prelude.{is_some}
use Rattle.bgp_attr.specs.Routes.{attribute_at, canon, without_attribute}
use Rattle.xbgp_view.specs.Views.{Edited}
use Rattle.spk_native.specs.declared.four.Had.{Had}
use Rattle.spk_native.specs.Rebuilds.{bare, replaced, set_if, size_if}
use Rattle.spk_native.proofs.RebuildsLemmas.{at-without, rising-without}
use Rattle.spk_native.proofs.ReplacesLemmas.{at-with_path_alone, length-path_alone, replaced-with_path_alone}
use Rattle.spk_native.proofs.ReplacesLemmas.{with_path_alone}
use Rattle.spk_native.proofs.four.replace_path.Goals as goal

pub remove_if-requires-2 : goal.remove_if-requires-2
remove_if-requires-2 c =
    ap (λ (h : Had). h.path4) c.requires.had
    ∙ ap is_some (sym (ap (λ (e : Edited). attribute_at e.route 17) c.remove_if.ensures
    ∙ at-without c.args.route.now.route 7 17 c.requires.shape.rising))

pub remove_if-requires-3 : goal.remove_if-requires-3
remove_if-requires-3 c =
    let r = c.args.route.now.route in
    let rising = c.requires.shape.rising in
    ap (λ (h : Had). h.aggregator4) c.requires.had
    ∙ ap is_some (sym (ap (λ (e : Edited). attribute_at e.route 18) c.remove_if-2.ensures
    ∙ ap (λ (e : Edited). attribute_at (without_attribute e.route 17) 18) c.remove_if.ensures
    ∙ at-without (without_attribute r 7) 17 18 (rising-without r 7 rising)
    ∙ at-without r 7 18 rising))

-- the route of which the AS_PATH is left
alone : (c : goal.After-replace-arg-1)
    → c.remove_if-3.new.route ≡ record { route = with_path_alone c.args.route.now.route; kept = c.args.route.now.kept }
alone c =
    c.remove_if-3.ensures
    ∙ ap (λ (e : Edited). record { route = without_attribute e.route 18; kept = e.kept })
    (c.remove_if-2.ensures
    ∙ ap (λ (e : Edited). record { route = without_attribute e.route 17; kept = e.kept }) c.remove_if.ensures)

pub replace-requires-clause-had : goal.replace-requires-clause-had
replace-requires-clause-had c =
    ap (λ (h : Had). h.path) c.requires.had
    ∙ ap is_some (sym (ap (λ (e : Edited). attribute_at e.route 2) (alone c)
    ∙ at-with_path_alone c.args.route.now.route 2 c.requires.shape.rising))

-- the route with what is held for the AS_PATH
path_set : (c : goal.After-replace-arg-1) → replaced 2 c.args.path.now c.remove_if-3.new.route.route
    ≡ set_if 2 c.args.path.now (bare c.args.route.now.route)
path_set c =
    ap (λ (e : Edited). replaced 2 c.args.path.now e.route) (alone c)
    ∙ replaced-with_path_alone c.args.route.now.route c.args.path.now c.requires.shape.rising

size : (c : goal.After-replace-arg-1) → length (canon (replaced 2 c.args.path.now c.remove_if-3.new.route.route))
    ≡ length (canon (bare c.args.route.now.route)) + size_if c.args.path.now
size c =
    ap (λ r. length (canon r)) (path_set c)
    ∙ length-path_alone c.args.route.now.route c.args.path.now c.requires.shape.rising

pub replace-requires-clause-room : goal.replace-requires-clause-room
replace-requires-clause-room c = omega (arith, size c, c.requires.room)

pub returns-clause-after : goal.returns-clause-after
returns-clause-after c =
    c.replace.ensures
    ∙ ap (λ (e : Edited). record { route = replaced 2 c.args.path.now c.remove_if-3.new.route.route; kept = e.kept })
    (alone c.before)
    ∙ ap (λ r. record { route = r; kept = c.args.route.now.kept }) (path_set c.before)

pub returns-clause-bound : goal.returns-clause-bound
returns-clause-bound c =
    omega (arith, size c.before, ap (λ (e : Edited). length (canon e.route)) c.replace.ensures)

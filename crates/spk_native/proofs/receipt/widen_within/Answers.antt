use Rattle.std.proofs.Common.{◌≡◌, ◌<◌, ap, subst, ◌∙◌, length, false, nat_le}
use Rattle.std.specs.Prelude.{MatchBool}
use Rattle.bgp_attr.specs.Routes.{Route, canon, IsRoute}
use Rattle.spk_native.specs.declared.four.Four.{Four}
use Rattle.xb_wire.specs.declared.numbers.TheConstants.{MAX_MESSAGE}
use Rattle.spk_native.specs.Receipt.{inflow}
use Rattle.spk_native.specs.Rebuilds.{four_of, rebuilt, size_if, wide_four}
use Rattle.spk_native.proofs.ReceiptLemmas.{faultless_path, faultless_aggregator, length-wide_path, rebuilt-wide}
use Rattle.spk_native.proofs.ReceiptLemmas.{IfErr-always}
use Rattle.spk_native.proofs.receipt.widen_within.Goals as goal

pub wide_four-requires-clause-sound_path : goal.wide_four-requires-clause-sound_path
wide_four-requires-clause-sound_path c =
    faultless_path 2 c.args.route.now.route c.four_in-had.result.path c.requires.sound
    (ap (λ (f : Four). f.path) c.four_in-had.ensures.value)

pub wide_four-requires-clause-sound_aggregator : goal.wide_four-requires-clause-sound_aggregator
wide_four-requires-clause-sound_aggregator c =
    faultless_aggregator 2 c.args.route.now.route c.four_in-had.result.aggregator c.requires.sound
    (ap (λ (f : Four). f.aggregator) c.four_in-had.ensures.value)

pub returns-in_err-four-clause-room : goal.returns-in_err-four-clause-room
returns-in_err-four-clause-room c =
    let r = c.args.route.now.route in
    let n = length c.args.path.now in
    IfErr-always (n < length (canon (inflow r false))) c.from_residual.result
    (length-wide_path r n c.four_in-had.ensures.shape
    (subst (λ (f : Four). n < size_if (wide_four f).path) c.four_in-had.ensures.value c.in_err-four.ensures.room))

same : (r : Route) (had four : Four) → IsRoute r → had ≡ four_of r → four ≡ wide_four had
    → rebuilt four r ≡ inflow r false
same r had four shape is new = ap (λ (f : Four). rebuilt f r) (new ∙ ap wide_four is) ∙ rebuilt-wide r shape

pub returns-clause-fits : goal.returns-clause-fits
returns-clause-fits c =
    let had = c.four_in-had.ensures in
    c.rebuild.ensures.fits
    ∙ ap (λ s. nat_le (length (canon s)) MAX_MESSAGE)
    (same c.args.route.now.route _ _ had.shape had.value c.in_ok-four.ensures.value)

pub returns-clause-after : goal.returns-clause-after
returns-clause-after c =
    let had = c.four_in-had.ensures in
    subst (λ (s : Route). MatchBool c.rebuild.result
    (c.rebuild.new.route ≡ record { route = s; kept = c.args.route.now.kept }) (c.rebuild.new.route ≡ c.args.route.now))
    (same c.args.route.now.route _ _ had.shape had.value c.in_ok-four.ensures.value) c.rebuild.ensures.after

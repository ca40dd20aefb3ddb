use Rattle.std.proofs.Common.{◌≡◌, ap, subst, ◌∙◌, arith, length, nat_le}
use Rattle.std.specs.Prelude.{MatchBool}
use Rattle.bgp_attr.specs.Routes.{Route, canon, IsRoute}
use Rattle.spk_native.specs.declared.four.Four.{Four}
use Rattle.xb_wire.specs.declared.numbers.TheConstants.{MAX_SECTION}
use Rattle.spk_native.specs.Receipt.{narrow}
use Rattle.spk_native.specs.Rebuilds.{four_of, four_size, narrow_four, rebuilt}
use Rattle.spk_native.proofs.RebuildsLemmas.{length-bare}
use Rattle.spk_native.proofs.ReceiptLemmas.{faultless_path, faultless_aggregator, rebuilt-narrow}
use Rattle.spk_native.proofs.receipt.narrow_within.Goals as goal

pub narrow_four-four-requires-clause-sound_path : goal.narrow_four-four-requires-clause-sound_path
narrow_four-four-requires-clause-sound_path c =
    faultless_path 4 c.args.route.now.route c.four_in-had.result.path c.requires.sound
    (ap (λ (f : Four). f.path) c.four_in-had.ensures.value)

pub narrow_four-four-requires-clause-sound_aggregator : goal.narrow_four-four-requires-clause-sound_aggregator
narrow_four-four-requires-clause-sound_aggregator c =
    faultless_aggregator 4 c.args.route.now.route c.four_in-had.result.aggregator c.requires.sound
    (ap (λ (f : Four). f.aggregator) c.four_in-had.ensures.value)

pub narrow_four-four-requires-clause-path : goal.narrow_four-four-requires-clause-path
narrow_four-four-requires-clause-path c =
    let all = length-bare c.args.route.now.route c.four_in-had.ensures.shape.rising in
    omega (arith, all, ap four_size c.four_in-had.ensures.value, c.requires.path)

pub narrow_four-four-requires-clause-path4 : goal.narrow_four-four-requires-clause-path4
narrow_four-four-requires-clause-path4 c =
    let all = length-bare c.args.route.now.route c.four_in-had.ensures.shape.rising in
    omega (arith, all, ap four_size c.four_in-had.ensures.value, c.requires.path4)

pub narrow_four-four-requires-clause-aggregator4 : goal.narrow_four-four-requires-clause-aggregator4
narrow_four-four-requires-clause-aggregator4 c =
    let all = length-bare c.args.route.now.route c.four_in-had.ensures.shape.rising in
    omega (arith, all, ap four_size c.four_in-had.ensures.value, c.requires.aggregator4)

same : (r : Route) (had four : Four) → IsRoute r → had ≡ four_of r → four ≡ narrow_four had → rebuilt four r ≡ narrow r
same r had four shape is new = ap (λ (f : Four). rebuilt f r) (new ∙ ap narrow_four is) ∙ rebuilt-narrow r shape

pub returns-clause-fits : goal.returns-clause-fits
returns-clause-fits c =
    let had = c.four_in-had.ensures in
    c.rebuild.ensures.fits
    ∙ ap (λ s. nat_le (length (canon s)) MAX_SECTION)
    (same c.args.route.now.route _ _ had.shape had.value c.narrow_four-four.ensures)

pub returns-clause-after : goal.returns-clause-after
returns-clause-after c =
    let had = c.four_in-had.ensures in
    subst (λ (s : Route). MatchBool c.rebuild.result
    (c.rebuild.new.route ≡ record { route = s; kept = c.args.route.now.kept }) (c.rebuild.new.route ≡ c.args.route.now))
    (same c.args.route.now.route _ _ had.shape had.value c.narrow_four-four.ensures) c.rebuild.ensures.after

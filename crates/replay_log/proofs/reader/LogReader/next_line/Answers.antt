use Rattle.std.proofs.Common.{◌≡◌, ◌≢◌, rules, ap, sym}
use Rattle.replay_log.specs.declared.reader.Got.TheVariants.{Line}
use Rattle.replay_log.specs.Readings.{Reading, Next, next_at}
use Rattle.replay_log.proofs.ReadingLemmas.{got_view-else}
use Rattle.replay_log.proofs.reader.LogReader.next_line.Goals as goal

pub returns-else-eq-clause-told : goal.returns-else-eq-clause-told
returns-else-eq-clause-told g c =
    λ log is.
    let differs : c.read_line-got.result.0 ≢ Line = search rules in
    let at : c.args.self.now.at ≡ c.self.inside.at = sym (ap (λ (r : Reading). r.at) c.self.view_is) in
    rw at (got_view-else c.read_line-got.result.0 _ _ (λ (next : Next). next ≡ next_at log c.self.inside.at) differs (c.read_line-got.ensures.told log is))

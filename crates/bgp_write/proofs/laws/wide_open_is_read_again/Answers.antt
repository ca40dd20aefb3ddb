use Rattle.bgp_write.proofs.ReadBackLemmas.{judge_open4-wide_open_body, open_seen4-wide_open_body}
use Rattle.bgp_write.proofs.laws.wide_open_is_read_again.Goals as goal

pub returns-clause-accepted : goal.returns-clause-accepted
returns-clause-accepted c = judge_open4-wide_open_body

pub returns-clause-values : goal.returns-clause-values
returns-clause-values c = open_seen4-wide_open_body

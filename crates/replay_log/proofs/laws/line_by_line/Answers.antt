use Rattle.replay_log.proofs.LogLemmas.{log_at-log_by}
use Rattle.replay_log.proofs.laws.line_by_line.Goals as goal

pub returns : goal.returns
returns c = λ peers n now at text. log_at-log_by peers n now at text

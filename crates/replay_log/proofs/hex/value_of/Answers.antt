use Rattle.std.proofs.Common.{sym, subst, ℕ, ◌≤◌}
use Rattle.replay_log.specs.declared.hex.TheConstants.{NO_DIGIT}
use Rattle.replay_log.proofs.HexLemmas.{value-of, value-small}
use Rattle.replay_log.proofs.hex.value_of.Goals as goal

pub returns-clause-value : goal.returns-clause-value
returns-clause-value c = value-of c.args.c c.ranges.c.fits

pub returns-clause-small : goal.returns-clause-small
returns-clause-small c = subst (λ (n : ℕ). n ≤ NO_DIGIT) (sym (value-of c.args.c c.ranges.c.fits)) (value-small c.args.c)

use Rattle.std.proofs.Common.{sym, ◌∙◌, arith}
use Rattle.xbgp_view.specs.Indexes.{index_route}
use Rattle.xbgp_view.proofs.IndexesLemmas.{code_from-absent, code_from-there, code_from-past}
use Rattle.xbgp_view.proofs.section.least_code.Goals as goal

pub codes-preserved : goal.codes-preserved
codes-preserved c = sym (code_from-absent (index_route 0 c.args.index.now) c.codes.code (sym c.has_code.ensures ∙ c.if-has_code.false)) ∙ c.codes.invariant

pub returns-then-has_code : goal.returns-then-has_code
returns-then-has_code c = sym (code_from-there (index_route 0 c.args.index.now) c.codes.code c.requires.rising (sym c.has_code.ensures ∙ c.if-has_code.true)) ∙ c.codes.invariant

pub returns : goal.returns
returns c = sym (code_from-past (index_route 0 c.args.index.now) c.codes.code c.requires.entries (omega arith)) ∙ c.codes.invariant

use Rattle.std.proofs.Common.{◌≡◌}
use Rattle.xbgp_view.specs.Indexes.{index_route}
use Rattle.xbgp_view.specs.Views.{code_from}
use Rattle.xbgp_view.proofs.section.least_code.Given as goal

-- the codes before this one have no attribute
abbrev pub invariant-codes : goal.invariant-codes
invariant-codes l = code_from (index_route 0 l.index) l.code ≡ code_from (index_route 0 l.index) l.from

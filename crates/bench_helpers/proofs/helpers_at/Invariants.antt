use Rattle.std.proofs.Common.{◌≡◌, ℕ, ◌&&◌}
use Rattle.std.specs.Prelude.{nat_lt}
use Rattle.bpf_insn.specs.Helpers.{allows}
use Rattle.xb_domain.specs.Points.{helper_allowed}
use Rattle.bench_helpers.proofs.helpers_at.Given as goal

abbrev pub invariant-loop-number : goal.invariant-loop-number
invariant-loop-number l = (n : ℕ) → allows l.helpers n ≡ (nat_lt n l.number && helper_allowed l.point n)

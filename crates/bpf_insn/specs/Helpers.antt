-- Sets of helpers, which are this project's own.
use Rattle.std.specs.Prelude.{ℕ, Bool, false, slice_index_or}
use Rattle.bpf_insn.specs.declared.helpers.HelperSet.{HelperSet}

-- a set of helpers has a number
abbrev pub allows : HelperSet → ℕ → Bool
allows set number = slice_index_or set.allowed number false

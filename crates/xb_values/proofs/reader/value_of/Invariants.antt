use Rattle.std.proofs.Common.{◌≡◌, drop}
use Rattle.xb_values.proofs.ReaderLemmas.{value_after}
use Rattle.xb_values.proofs.reader.value_of.Given as goal

-- what is left finishes the value
abbrev pub invariant-loop-c : goal.invariant-loop-c
invariant-loop-c l = value_after l.value (drop l.c-index l.text) ≡ value_after 0 l.text

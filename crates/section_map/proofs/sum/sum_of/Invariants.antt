use Rattle.std.proofs.Common.{◌≡◌, length, drop}
use Rattle.section_map.specs.Sums.{words_sum}
use Rattle.section_map.proofs.sum.sum_of.Given as goal

-- the sum with the words that are left is that of all words
abbrev pub invariant-words : goal.invariant-words
invariant-words l = words_sum l.sum (drop l.word-index l.words) ≡ words_sum (length l.section) l.words

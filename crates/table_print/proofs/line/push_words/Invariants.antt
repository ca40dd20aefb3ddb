use Rattle.std.proofs.Common.{◌∷◌, map, drop}
use Rattle.xb_values.specs.Texts.{line}
use Rattle.table_print.specs.Pushes.{Finishes, word_view, words_left}
use Rattle.table_print.proofs.line.push_words.Given as goal

-- the words that are left finish the line
abbrev pub invariant-loop-word : goal.invariant-loop-word
invariant-loop-word l =
    Finishes l.out (words_left (map word_view (drop l.word-index l.others)))
    l.fn.out (line (l.first ∷ map word_view l.others))

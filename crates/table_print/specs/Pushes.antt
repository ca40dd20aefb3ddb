-- Words as they are appended (for the private functions of line.rt).
use Rattle.std.specs.Prelude.{◌≡◌, ◌↔◌, ◌≤◌, ℕ, ◌+◌, List, [], ◌∷◌, ◌++◌, length, take, Bool, IsTrue, decimal}
use Rattle.xb_values.specs.Buffers.{Buffer}
use Rattle.xb_values.specs.Texts.{prefix_text, hex_text}
use Rattle.table_print.specs.declared.line.Word.{Word}
use Rattle.table_print.specs.declared.line.Word.TheVariants as words

-- the text of a word
abbrev pub word_view : Word → List ℕ
word_view (words.Text text) = text.now
word_view (words.Number number) = decimal number
word_view (words.Prefix prefix) = prefix_text prefix
word_view (words.Octets octets) = hex_text octets.now

-- words after others on a line, each with a space before it, and the line's end
abbrev pub words_left : List (List ℕ) → List ℕ
words_left [] = 10 ∷ []
words_left (word ∷ words) = 32 ∷ word ++ words_left words

-- a text is appended if it fits, and else perhaps a front of it
pub record AppendsFront (done : Bool) (old new : Buffer) (text : List ℕ) : Type 0 where
  pub fits : IsTrue done ↔ (length old.octets + length text ≤ old.capacity)
  pub result : IsTrue done → new ≡ record old { octets = old.octets ++ text }
  pub front : take (length old.octets) new.octets ≡ old.octets
  pub longer : length old.octets ≤ length new.octets
  pub capacity : new.capacity ≡ old.capacity

-- whatever comes of a rest that is appended to a buffer, comes of the whole text that was begun at another
abbrev pub Finishes : Buffer → List ℕ → Buffer → List ℕ → Type 0
Finishes out rest old text =
    (done : Bool) (new : Buffer) → AppendsFront done out new rest → AppendsFront done old new text

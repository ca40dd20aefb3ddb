-- A line of the code as the line that it is, and the buffer of its octets after it.
use Rattle.std.specs.Prelude.{◌≡◌, ℕ, List}
use Rattle.std.specs.Borrow.{MutBor, Fml}
use Rattle.std.specs.Io.BufRead.{Rests}
use Rattle.xb_domain.specs.Views.{event_view}
use Rattle.xb_domain.specs.Events.{octets}
use Rattle.xb_values.specs.Buffers.{Buffer}
use Rattle.xb_values.specs.contracts.buf.Buf.{the_row}
use Rattle.replay_log.specs.Lines.{Line, blank_line, says}
use Rattle.replay_log.specs.declared.line.Line as lent
use Rattle.replay_log.specs.declared.line.Line.TheVariants as lent_variants
use Rattle.replay_log.specs.declared.line.Told.{Told}
use Rattle.replay_log.specs.declared.line.Told.TheVariants as told_variants

-- a line of the code, without its octets' address
abbrev pub line_view : lent.Line → Line
line_view lent_variants.Blank = blank_line
line_view (lent_variants.Event e) = says (event_view e)

-- (for the private steps of `parse_into`) a line whose octets are those of a buffer
abbrev pub told_view : List ℕ → Told → Line
told_view bytes told_variants.Blank = blank_line
told_view bytes (told_variants.Octets p) = says (octets p bytes)
told_view bytes (told_variants.Event e) = says (event_view e)

-- once the line is gone, the buffer has the capacity that it had
abbrev pub KeepsRoom : MutBor Buffer → Fml
KeepsRoom buffer = Rests the_row buffer (λ b. b.capacity ≡ (buffer.now).capacity)

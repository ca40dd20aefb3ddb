-- What is drawn from a sequence of numbers that looks random (this project's own; its factor and its summand are those
-- of Knuth's MMIX).
use Rattle.std.specs.Prelude.{ℕ, ◌+◌, ◌*◌, ◌/◌, ◌%◌, ◌^◌}

-- the number after another
abbrev pub next_number : ℕ → ℕ
next_number x = (6364136223846793005 * x + 1442695040888963407) % 2 ^ 64

-- what is drawn from a number on, and the number that the next draw takes
pub record Drawn (A : Type 0) : Type 0 where
  pub value : A
  pub x : ℕ

-- a number below m
unfoldable pub draw : ℕ → ℕ → Drawn ℕ
draw m x = record { value = next_number x / 2 ^ 33 % m; x = next_number x }

-- a value for which nothing is drawn
abbrev pub drawn : {A : Type 0} → A → ℕ → Drawn A
drawn value x = record { value = value; x = x }

-- a draw, and what is drawn after it with its value
infixl 10 ◌>>=◌
abbrev pub ◌>>=◌ : {A B : Type 0} → (ℕ → Drawn A) → (A → ℕ → Drawn B) → ℕ → Drawn B
(d >>= f) x = f (d x).value (d x).x

-- Steps that may give nothing.
use Rattle.std.proofs.Common.{◌≡◌, Option, Some, None, refl}
use Rattle.xb_words.specs.Optional.{◌>>=◌}

-- if a chain gives a value, its first step gives one
pub bind-some : {A B : Type 0} (o : Option A) (f : A → Option B) (b : B) → (o >>= f) ≡ Some b → (a : A) × (o ≡ Some a) × (f a ≡ Some b)
bind-some None f b e = cc e
bind-some (Some a) f b e = (a, refl, e)

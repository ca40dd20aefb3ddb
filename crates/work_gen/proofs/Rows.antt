-- Worked values of the generator, by evaluation.
use Rattle.std.proofs.Common.{◌≡◌, refl}
use Rattle.work_gen.specs.Draws.{draw}

-- from the number 1 the first draw below 4 is 2, and leaves this number
first_draw : draw 4 1 ≡ record { value = 2; x = 7806831264735756412 }
unfolding draw
first_draw = refl

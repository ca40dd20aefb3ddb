-- Two and three ranks with distinct addresses.
use Rattle.std.proofs.Common.{◌≢◌, zero, suc, [], ◌∷◌, arith}
use Rattle.spk_native.specs.declared.decision.Rank.{Rank}
use Rattle.spk_native.specs.Laws.{AreApart}

pub AreApart-two : (a b : Rank) → a.address ≢ b.address → AreApart (a ∷ b ∷ [])
AreApart-two a b ab i zero d lt within = absurd (omega arith)
AreApart-two a b ab zero (suc zero) d lt within = ab
AreApart-two a b ab (suc i) (suc zero) d lt within = absurd (omega arith)
AreApart-two a b ab i (suc (suc j)) d lt within = absurd (omega arith)

pub AreApart-three : (a b c : Rank) → a.address ≢ b.address → a.address ≢ c.address → b.address ≢ c.address
    → AreApart (a ∷ b ∷ c ∷ [])
AreApart-three a b c ab ac bc i zero d lt within = absurd (omega arith)
AreApart-three a b c ab ac bc zero (suc zero) d lt within = ab
AreApart-three a b c ab ac bc (suc i) (suc zero) d lt within = absurd (omega arith)
AreApart-three a b c ab ac bc zero (suc (suc zero)) d lt within = ac
AreApart-three a b c ab ac bc (suc zero) (suc (suc zero)) d lt within = bc
AreApart-three a b c ab ac bc (suc (suc i)) (suc (suc zero)) d lt within = absurd (omega arith)
AreApart-three a b c ab ac bc i (suc (suc (suc j))) d lt within = absurd (omega arith)

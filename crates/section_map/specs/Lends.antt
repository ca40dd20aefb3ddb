-- What a map ends as when a `&mut` to a value is returned.
use Rattle.std.specs.Prelude.{ℕ, List, Option, Some, OnSome}
use Rattle.std.specs.Borrow.{LendsIf, LendsSo, Fml, RattleType, MutBor}
use Rattle.section_map.specs.Sections.{ChangesAt, SameSections}
use Rattle.section_map.specs.contracts.map.First as first
use Rattle.section_map.specs.contracts.map.SectionMap.{the_row}
use Rattle.section_map.specs.declared.map.First.{First}
use Rattle.section_map.specs.declared.map.SectionMap.{SectionMap}

module _ (T : RattleType) (s : MutBor (SectionMap T.Denot)) (section : List ℕ) where
  -- once the borrow r ends, the section has the last value written through r; at `None` the map is unchanged
  abbrev pub lends_at : Option (MutBor T.Denot) → Fml
  lends_at r =
      LendsSo (the_row T) T s r (λ n w. OnSome r (ChangesAt s.now n section (Some w))) (λ n. SameSections s.now n)

module _ (T : RattleType) (s : MutBor (First T.Denot)) where
  -- once the borrow r ends, the value is the last one written through r; at `None` nothing changed
  abbrev pub lends_value : Option (MutBor T.Denot) → Fml
  lends_value r = LendsIf (first.the_row T) T s r (λ w. record s.now { value = w }) s.now

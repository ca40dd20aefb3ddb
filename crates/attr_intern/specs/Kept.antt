-- What a pool keeps beside its records, for the private functions of pool.rt: the id of each section.
use Rattle.std.specs.Prelude.{◌≡◌, ℕ, ◌≤◌, List, Some}
use Rattle.std.specs.Option.{option_map}
use Rattle.bgp_attr.specs.Routes.{canon, IsRoute}
use Rattle.section_map.specs.Sections.{at_section}
use Rattle.section_map.specs.declared.map.SectionMap.{SectionMap}
use Rattle.slab.specs.Slab.{Slab, get}
use Rattle.attr_intern.specs.Pools.{Owned, most_owners}

-- the ids are those of the records, each by the canonical section of its route
pub record AreIndexed (slab : Slab Owned) (ids : SectionMap ℕ) : Type 0 where
  pub routes : (id : ℕ) (o : Owned) → get slab id ≡ Some o → IsRoute o.route
  pub owned : (id : ℕ) (o : Owned) → get slab id ≡ Some o → 1 ≤ o.owners
  pub counted : (id : ℕ) (o : Owned) → get slab id ≡ Some o → o.owners ≤ most_owners
  pub listed : (id : ℕ) (o : Owned) → get slab id ≡ Some o → at_section ids (canon o.route) ≡ Some id
  pub living : (section : List ℕ) (id : ℕ) → at_section ids section ≡ Some id
      → option_map (λ o. canon o.route) (get slab id) ≡ Some section

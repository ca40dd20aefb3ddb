use Rattle.std.proofs.Common.{◌≡◌, None, Some, is_some, IsSome, refl, sym, ap, ◌∙◌}
use Rattle.std.specs.BTreeMap.{get, get_by}
use Rattle.std.specs.Ordering.{nat_cmp}
use Rattle.section_map.specs.Sections.{value_if}
use Rattle.section_map.proofs.MapLemmas.{ChangesAt-first, ChangesAt-rest, SameSections-entries, SameSections-first}
use Rattle.section_map.proofs.MapLemmas.{at_section-first, at_section-rest, compared, none_found, on_some}
use Rattle.section_map.proofs.MapLemmas.{value_if-first, value_if-only}
use Rattle.section_map.proofs.map.SectionMap.get_mut.Goals as goal

pub returns-then-contains_key : goal.returns-then-contains_key
returns-then-contains_key g c =
    let map = c.args.self.now in
    let s = c.args.section.now in
    let some : IsSome (get_by (compared s) map.rest) = sym c.contains_key.ensures ∙ c.if-contains_key.true in (
      (
        refl,
        λ w. on_some c.get_mut.result (λ _. ChangesAt-rest map _ s w refl ((c.get_mut.follows.holds w).3 some)),
        λ q. SameSections-entries map _ refl (ap (λ m. m.entries) c.get_mut.follows.holds-at-none) q,
      ),
      record {
        writes_back = tt;
        value = c.get_mut.ensures.value ∙ sym (at_section-rest map s some);
      },
    )

pub returns-in_err-first : goal.returns-in_err-first
returns-in_err-first g c =
    let map = c.args.self.now in
    let s = c.args.section.now in
    let none : get_by (compared s) map.rest ≡ None =
    none_found _ (sym c.contains_key.ensures ∙ c.if-contains_key.false) in
    rw c.from_residual.ensures (
      (
        refl,
        λ w. tt,
        λ q. SameSections-entries map _ (ap (λ m. m.entries) c.get_mut-2.follows.holds-at-none) refl q,
      ),
      record {
        writes_back = tt;
        value = sym (at_section-first map s c.sum_of.result c.sum_of.ensures none
            ∙ ap (λ slot. value_if slot s) (sym c.in_err-first.ensures.value));
      },
    )

pub returns : goal.returns
returns g c =
    let map = c.args.self.now in
    let s = c.args.section.now in
    let first = c.in_ok-first.first.now in
    let none : get_by (compared s) map.rest ≡ None =
    none_found _ (sym c.contains_key.ensures ∙ c.if-contains_key.false) in
    let there : get nat_cmp map.firsts c.sum_of.result ≡ Some first = sym c.in_ok-first.ensures.value in
    let found : value_if (get nat_cmp map.firsts c.sum_of.result) s ≡ value_if (Some first) s =
    ap (λ slot. value_if slot s) there in (
      (
        refl,
        λ w. on_some c.value_mut.result (λ some.
            let same = value_if-first (Some first) first s refl (ap is_some (sym c.value_mut.ensures.value) ∙ some) in
            ChangesAt-first map _ s c.sum_of.result (record { section = first.section; value = w }) c.sum_of.ensures same
            none (λ q apart. value_if-only _ first s q there same apart)
            ((c.get_mut-2.follows.holds (record { section = first.section; value = w })).3 (ap is_some there)) refl),
        λ q. SameSections-first map _ c.sum_of.result first there
            ((c.get_mut-2.follows.holds first).3 (ap is_some there)) refl q,
      ),
      record {
        writes_back = tt;
        value = c.value_mut.ensures.value ∙ sym (at_section-first map s c.sum_of.result c.sum_of.ensures none ∙ found);
      },
    )

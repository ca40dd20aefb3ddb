-- An export that is encoded again, with the same maps and all faults noted, gives the same section and changes nothing.
use Rattle.std.proofs.Common.{◌≡◌, refl, sym, ap, ◌∙◌, ℕ, zero, suc, true, List, [], ◌∷◌, Option, Some, subst}
use Rattle.std.specs.List.{AllByRecursion, slice_get}
use Rattle.xb_words.specs.Table.{has_key}
use Rattle.xb_domain.specs.declared.point.Point.TheVariants.{Encode}
use Rattle.bpf_machine.specs.declared.world.Cause.{Cause}
use Rattle.xbgp_helpers.specs.Worlds.{World, nowhere}
use Rattle.xbgp_maps.specs.Mappings.{Mapping}
use Rattle.xbgp_points.proofs.LawLemmas.{chain_changes}
use Rattle.xbgp_points.specs.declared.outcome.Outcome.{Outcome}
use Rattle.xbgp_points.specs.declared.outcome.Outcome.TheVariants.{Verdict, Native, Failed}
use Rattle.xbgp_points.specs.Chains.{Chained, Faults, chain, fault_cmp, programs_at}
use Rattle.xbgp_points.specs.Points.{Called, Engine, called, encode, given_section, world_of}
use Rattle.spk_model.specs.declared.host.Setup.{Setup}
use Rattle.spk_model.specs.Laws.{AreFaults, Export, encode_again, encode_all}
use Rattle.spk_model.proofs.FaultsLemmas.{after_faults, all_listed, chain_from-noted, noted, of_with_key}
use Rattle.spk_model.proofs.FaultsLemmas.{with_key-known}

module _ (setup : Setup) where
  -- the chain at encode with some maps, and no fault noted before
  abbrev chain_at : List Mapping → Export → Chained
  chain_at maps x =
      let engine : Engine = record { maps = maps; faults = [] } in
      chain setup.manifest Encode []
      (world_of engine (setup.config).local x.peer x.source nowhere 0 x.route x.best x.source) []

  abbrev encoded_by : Engine → Export → Called
  encoded_by engine x = encode setup.manifest (setup.config).local engine x.peer x.source x.best x.route

  -- what a chain leaves by the maps, and by the faults before
  encoded-noted : (engine : Engine) (x : Export)
      → encoded_by engine x ≡ called (after_faults engine.faults (chain_at engine.maps x))
  unfolding chain
  encoded-noted engine x =
      let world = world_of engine (setup.config).local x.peer x.source nowhere 0 x.route x.best x.source in
      ap called
      (chain_from-noted Encode world engine.faults [] (programs_at setup.manifest Encode) world)

  chain_at-maps : (maps : List Mapping) (x : Export) → ((chain_at maps x).world).maps ≡ maps
  chain_at-maps maps x =
      let engine : Engine = record { maps = maps; faults = [] } in
      let world = world_of engine (setup.config).local x.peer x.source nowhere 0 x.route x.best x.source in
      ap (λ (w : World). w.maps) (chain_changes setup.manifest Encode [] world [])

  encoded-maps : (engine : Engine) (x : Export) → ((encoded_by engine x).engine).maps ≡ engine.maps
  encoded-maps engine x =
      ap (λ (c : Called). (c.engine).maps) (encoded-noted engine x) ∙ chain_at-maps engine.maps x

  encoded-faults : (engine : Engine) (x : Export)
      → ((encoded_by engine x).engine).faults ≡ noted (chain_at engine.maps x).outcome engine.faults
  encoded-faults engine x = ap (λ (c : Called). (c.engine).faults) (encoded-noted engine x)

  encoded-section : (engine : Engine) (x : Export)
      → given_section (encoded_by engine x) ≡ given_section (called (chain_at engine.maps x))
  encoded-section engine x = ap (λ (c : Called). given_section c) (encoded-noted engine x)

  -- what holds of all faults after an outcome holds of those before
  before_noted : (P : ℕ × Cause → Type 0) (o : Outcome) (faults : Faults) → AllByRecursion P (noted o faults)
      → AllByRecursion P faults
  before_noted P (Failed program cause) faults all = (of_with_key P faults (program, cause) all).1
  before_noted P (Verdict v) faults all = all
  before_noted P Native faults all = all

  -- all exports leave the faults before them
  before_all : (P : ℕ × Cause → Type 0) (engine : Engine) (xs : List Export)
      → AllByRecursion P ((encode_all setup engine xs).engine).faults → AllByRecursion P engine.faults
  before_all P engine [] all = all
  before_all P engine (x ∷ xs) all =
      let c = encoded_by engine x in
      let later = before_all P c.engine xs all in
      before_noted P (chain_at engine.maps x).outcome engine.faults
      (subst (λ (fs : Faults). AllByRecursion P fs) (encoded-faults engine x) later)

  -- an outcome whose fault is noted changes nothing
  noted-known : (o : Outcome) (faults again : Faults) → AreFaults again
      → AllByRecursion (λ f. has_key fault_cmp again f ≡ true) (noted o faults) → noted o again ≡ again
  noted-known (Failed program cause) faults again sorted all =
      with_key-known again (program, cause) sorted
      (of_with_key (λ f. has_key fault_cmp again f ≡ true) faults (program, cause) all).0
  noted-known (Verdict v) faults again sorted all = refl
  noted-known Native faults again sorted all = refl

  module _ (again : Engine) (sorted : AreFaults again.faults) where
    abbrev IsKnown : ℕ × Cause → Type 0
    IsKnown f = has_key fault_cmp again.faults f ≡ true

    -- an export that was encoded with the same maps, and whose fault is noted
    one_again : (engine : Engine) (x : Export) → again.maps ≡ engine.maps
        → AllByRecursion IsKnown ((encoded_by engine x).engine).faults
        → (Some (given_section (encoded_by again x)) ≡ Some (given_section (encoded_by engine x)))
        × ((encoded_by again x).engine ≡ again)
    one_again engine x same known =
        let outcome : (chain_at again.maps x).outcome ≡ (chain_at engine.maps x).outcome =
        ap (λ (ms : List Mapping). (chain_at ms x).outcome) same in
        let all = subst (λ (fs : Faults). AllByRecursion IsKnown fs) (encoded-faults engine x) known in
        let faults : ((encoded_by again x).engine).faults ≡ again.faults =
        encoded-faults again x
        ∙ ap (λ (o : Outcome). noted o again.faults) outcome
        ∙ noted-known (chain_at engine.maps x).outcome engine.faults again.faults sorted all in
        let section : given_section (encoded_by again x) ≡ given_section (encoded_by engine x) =
        encoded-section again x
        ∙ ap (λ (ms : List Mapping). given_section (called (chain_at ms x))) same
        ∙ sym (encoded-section engine x) in (
          ap (λ (o : Option (List ℕ)). Some o) section,
          ap (λ (ms : List Mapping). record { maps = ms; faults = ((encoded_by again x).engine).faults })
              (encoded-maps again x)
              ∙ ap (λ (fs : Faults). record { maps = again.maps; faults = fs }) faults,
        )

    all_again : (engine : Engine) (xs : List Export) (i : ℕ) (x : Export) → slice_get xs i ≡ Some x
        → again.maps ≡ engine.maps → AllByRecursion IsKnown ((encode_all setup engine xs).engine).faults
        → (Some (given_section (encoded_by again x)) ≡ slice_get (encode_all setup engine xs).sections i)
        × ((encoded_by again x).engine ≡ again)
    all_again engine [] i x is same known = absurd (cc is)
    all_again engine (y ∷ ys) zero x is same known =
        let here : y ≡ x = cc is in
        let first = before_all IsKnown (encoded_by engine y).engine ys known in
        subst (λ (z : Export).
        (Some (given_section (encoded_by again z)) ≡ Some (given_section (encoded_by engine y)))
        × ((encoded_by again z).engine ≡ again)) here (one_again engine y same first)
    all_again engine (y ∷ ys) (suc i) x is same known =
        let c = encoded_by engine y in
        all_again c.engine ys i x is (same ∙ sym (encoded-maps engine y)) known

  all-maps : (engine : Engine) (xs : List Export) → ((encode_all setup engine xs).engine).maps ≡ engine.maps
  all-maps engine [] = refl
  all-maps engine (x ∷ xs) = all-maps (encoded_by engine x).engine xs ∙ encoded-maps engine x

pub encode_again_holds : encode_again
encode_again_holds setup engine again xs i x accepted is sorted covers =
    all_again setup again sorted engine xs i x is (covers.0 ∙ all-maps setup engine xs)
    (all_listed (has_key fault_cmp again.faults) ((encode_all setup engine xs).engine).faults covers.1)

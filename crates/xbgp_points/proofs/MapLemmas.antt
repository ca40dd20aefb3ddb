-- The shapes of maps, which no chain changes.
use Rattle.std.proofs.Common.{◌≡◌, ◌∙◌, refl, ap, ℕ, Bool, true, false, List, [], ◌∷◌, Option, Some, None}
use Rattle.std.proofs.Common.{nat_lt, cond, slice_index, ◌==◌}
use Rattle.xb_words.specs.Optional.{◌>>=◌}
use Rattle.xb_domain.specs.Points.{helper_allowed}
use Rattle.xb_domain.specs.declared.point.Point.{Point}
use Rattle.bpf_mem.specs.Memory.{Memory, octets_at}
use Rattle.bpf_machine.specs.Running.{CallResult}
use Rattle.xbgp_maps.specs.declared.limits.TheConstants.{MAX_MAPS}
use Rattle.xbgp_maps.specs.declared.shape.MapShape.{MapShape}
use Rattle.xbgp_maps.specs.declared.shape.Put.{Put}
use Rattle.xbgp_maps.specs.declared.shape.Put.TheVariants as puts
use Rattle.xbgp_maps.specs.declared.shape.Remove.{Remove}
use Rattle.xbgp_maps.specs.declared.shape.Remove.TheVariants as removes
use Rattle.xbgp_maps.specs.Mappings.{Mapping, empty_maps, mapping_at, put_in, taken_from, shapes_of, with_entry}
use Rattle.xbgp_maps.specs.Mappings.{without_entry, put_answer, remove_answer}
use Rattle.xbgp_maps.proofs.JournalsLemmas.{put_shapes, remove_shapes}
use Rattle.xbgp_helpers.specs.declared.numbers.TheConstants.{NEXT, GET_ATTR, SET_ATTR, DEL_ATTR, NEXT_ATTR, GET_PEER}
use Rattle.xbgp_helpers.specs.declared.numbers.TheConstants.{GET_SOURCE, GET_PREFIX, MAP_GET, MAP_PUT, MAP_DEL}
use Rattle.xbgp_helpers.specs.declared.numbers.TheConstants.{WRITE_BUF, ALLOC, TIME}
use Rattle.xbgp_helpers.specs.Helping.{Counted, Given, counted, help, helped, map_at, map_del, map_put, part_after}
use Rattle.xbgp_helpers.specs.Helping.{put_given, removal_given}
use Rattle.xbgp_helpers.specs.Worlds.{World}
use Rattle.xbgp_helpers.proofs.ChangesLemmas.{by_step, by_test}
use Rattle.xbgp_helpers.proofs.RunsLemmas.{bpf-keeps}
use Rattle.xbgp_manifest.specs.declared.entries.ProgramEntry.{ProgramEntry}
use Rattle.xbgp_points.specs.Chains.{Faults, chain_from}
use Rattle.xbgp_points.proofs.KeepLemmas.{chain-keeps}

-- maps without entries have the shapes that they are made of
pub shapes_of_empty : (shapes : List MapShape) → shapes_of (empty_maps shapes) ≡ shapes
shapes_of_empty [] = refl
shapes_of_empty (s ∷ shapes) = ap (λ rest. s ∷ rest) (shapes_of_empty shapes)

-- a property of what follows a step that may give nothing, with what it gave
by_given : {A B : Type 0} (P : Option B → Type 0) (o : Option A) (f : A → Option B) → P None
    → ((x : A) → o ≡ Some x → P (f x)) → P (o >>= f)
by_given P None f none some = none
by_given P (Some x) f none some = some x refl

-- the map of a number is one of the maps
map_at-mapping : (b : Bool) (o : Option Mapping) (m : Mapping) → cond b o None ≡ Some m → o ≡ Some m
map_at-mapping true o m e = e
map_at-mapping false o m e = absurd (cc e)

put-shapes : (c : Counted) (n : ℕ) (m : Mapping) (k v : List ℕ) (a : Put) → mapping_at c.maps n ≡ Some m
    → shapes_of (put_given c (with_entry c.maps n m k v) a).1.maps ≡ shapes_of c.maps
put-shapes c n m k v puts.Done e = put_shapes c.maps n m (put_in m k v) k v puts.Done e refl
put-shapes c n m k v puts.Full e = refl
put-shapes c n m k v puts.Budget e = refl

removal-shapes : (c : Counted) (n : ℕ) (m : Mapping) (k : List ℕ) (a : Remove) → mapping_at c.maps n ≡ Some m
    → shapes_of (removal_given c (without_entry c.maps n m k) a).1.maps ≡ shapes_of c.maps
removal-shapes c n m k removes.Done e = remove_shapes c.maps n m (taken_from m k) k removes.Done e refl
removal-shapes c n m k removes.Absent e = refl
removal-shapes c n m k removes.Budget e = refl

map_put-shapes : (c : Counted) (n key src : ℕ) (memory : Memory)
    → shapes_of (part_after c (map_put c n key src memory)).maps ≡ shapes_of c.maps
map_put-shapes c n key src memory =
    let P : Given Counted → Type 0 = λ g. shapes_of (part_after c g).maps ≡ shapes_of c.maps in
    by_given P (map_at c.maps n) _ refl (λ m e.
    by_step P (octets_at memory key m.shape.key) _ refl (λ k.
    by_step P (octets_at memory src m.shape.value) _ refl (λ v.
    put-shapes c n m k v (put_answer c.writes m k) (map_at-mapping (nat_lt n MAX_MAPS) (mapping_at c.maps n) m e))))

map_del-shapes : (c : Counted) (n key : ℕ) (memory : Memory)
    → shapes_of (part_after c (map_del c n key memory)).maps ≡ shapes_of c.maps
map_del-shapes c n key memory =
    let P : Given Counted → Type 0 = λ g. shapes_of (part_after c g).maps ≡ shapes_of c.maps in
    by_given P (map_at c.maps n) _ refl (λ m e.
    by_step P (octets_at memory key m.shape.key) _ refl (λ k.
    removal-shapes c n m k (remove_answer c.writes m k) (map_at-mapping (nat_lt n MAX_MAPS) (mapping_at c.maps n) m e)))

-- the maps of a world have these shapes
abbrev HasShapes : List MapShape → World → Type 0
HasShapes shapes w = shapes_of w.maps ≡ shapes

helped-shapes : (shapes : List MapShape) (point : Point) (number a b c d : ℕ) (memory : Memory) (w : World)
    → HasShapes shapes w → HasShapes shapes (helped point number a b c d memory w).world
helped-shapes shapes point number a b c d memory w same =
    let P : CallResult World → Type 0 = λ r. HasShapes shapes r.world in
    by_test P (number == NEXT) _ _ (λ e. same) (λ _.
    by_test P (number == GET_ATTR) _ _ (λ e. same) (λ _.
    by_test P (number == SET_ATTR) _ _ (λ e. same) (λ _.
    by_test P (number == DEL_ATTR) _ _ (λ e. same) (λ _.
    by_test P (number == NEXT_ATTR) _ _ (λ e. same) (λ _.
    by_test P (number == GET_PEER) _ _ (λ e. same) (λ _.
    by_test P (number == GET_SOURCE) _ _ (λ e. same) (λ _.
    by_test P (number == GET_PREFIX) _ _ (λ e. same) (λ _.
    by_test P (number == MAP_GET) _ _ (λ e. same) (λ _.
    by_test P (number == MAP_PUT) _ _ (λ e. map_put-shapes (counted w) a b c memory ∙ same) (λ _.
    by_test P (number == MAP_DEL) _ _ (λ e. map_del-shapes (counted w) a b memory ∙ same) (λ _.
    by_test P (number == WRITE_BUF) _ _ (λ e. same) (λ _.
    by_test P (number == ALLOC) _ _ (λ e. same) (λ _.
    by_test P (number == TIME) _ _ (λ e. same) (λ _. same))))))))))))))

help-shapes : (shapes : List MapShape) (point : Point) (number : ℕ) (args : List ℕ) (memory : Memory) (w : World)
    → HasShapes shapes w → HasShapes shapes (help point number args memory w).world
unfolding help
help-shapes shapes point number args memory w same =
    let arg = slice_index args in
    by_test (λ (r : CallResult World). HasShapes shapes r.world) (helper_allowed point number) _ _
    (λ _. helped-shapes shapes point number (arg 0) (arg 1) (arg 2) (arg 3) memory w same) (λ _. same)

-- a chain keeps the shapes of the maps
pub chain-shapes : (point : Point) (window : List ℕ) (noted : Faults) (ps : List (ℕ × ProgramEntry)) (w : World)
    → shapes_of ((chain_from point window w noted ps w).world).maps ≡ shapes_of w.maps
chain-shapes point window noted ps w =
    chain-keeps point (HasShapes (shapes_of w.maps))
    (λ code memory fuel v h.
    bpf-keeps (HasShapes (shapes_of w.maps)) (help point) code (help-shapes (shapes_of w.maps) point) memory fuel v h)
    (λ v h. h) window w noted ps w refl refl

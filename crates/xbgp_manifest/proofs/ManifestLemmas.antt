-- Every accepted manifest keeps its ranges and limits, that names differ, and loaded code.
use Rattle.std.proofs.Common.{◌≡◌, ◌≢◌, ℕ, ◌<◌, ◌≤◌, true, false, not, List, [], ◌∷◌, ◌++◌, length, map, get_or, Option}
use Rattle.std.proofs.Common.{Some, None, Result, Ok, Err, refl, ap, sym, ◌∙◌, arith}
use Rattle.std.specs.Prelude.{IsTrue, codes, nat_le}
use Rattle.std.specs.Str.{bytes_eq}
use Rattle.std.specs.List.{list_any, All, AllPairs, AllByRecursion}
use Rattle.std.proofs.lemmas.Bool.{leb-true, false≢true}
use Rattle.std.proofs.lemmas.List.{length-map, map-append}
use Rattle.std.proofs.lemmas.List.Elements.{All-push}
use Rattle.std.proofs.lemmas.List.Quantifiers.{all_pairs_push}
use Rattle.std.proofs.lemmas.Slice.Eq.{bytes_eq-Decides}
use Rattle.toml.specs.Data.{Data, Members}
use Rattle.toml.specs.View.{view}
use Rattle.toml.specs.declared.value.Value.{Value}
use Rattle.bpf_insn.specs.declared.fault.LoadFault.{LoadFault}
use Rattle.bpf_insn.specs.Loading.{load_fault}
use Rattle.bpf_insn.proofs.LoadLemmas.{CallsOnly-load_fault}
use Rattle.xb_domain.specs.Points.{helper_allowed}
use Rattle.xb_domain.specs.declared.bad.BadKind.TheVariants.{Key, Room, Double}
use Rattle.xb_domain.specs.declared.bad.Part.TheVariants.{Top, Map, Program}
use Rattle.xb_fields.specs.declared.fault.FieldFault.{FieldFault}
use Rattle.xb_fields.specs.declared.fault.Location.{Location}
use Rattle.xb_fields.specs.Fields.{Judged, ◌>>=◌, document, location, required, optional, number, text, judged_entries}
use Rattle.xb_fields.specs.Fields.{keys_listed, table_with, list_of, fault_at}
use Rattle.xb_fields.proofs.StepLemmas.{bind-ok, ok-injective, judged_from-keeps, length-judged_from}
use Rattle.xb_fields.proofs.FieldLemmas.{bind-must, required_number-ok, text-ok, required-ok, length-optional_list}
use Rattle.xb_fields.proofs.FieldLemmas.{some-if, not-true, list_any-false}
use Rattle.xbgp_maps.specs.declared.shape.MapShape.{MapShape}
use Rattle.xbgp_maps.specs.Mappings.{is_from_1_to}
use Rattle.xbgp_maps.specs.declared.limits.TheConstants.{MAX_MAPS, MAX_KEY, MAX_VALUE, MAX_ENTRIES, MAX_ROOM}
use Rattle.xbgp_manifest.specs.declared.limits.TheConstants.{VERSION, MAX_PROGRAMS, MAX_FUEL}
use Rattle.xbgp_manifest.specs.declared.fault.ManifestFault.{ManifestFault}
use Rattle.xbgp_manifest.specs.declared.entries.MapEntry.{MapEntry}
use Rattle.xbgp_manifest.specs.declared.entries.ProgramEntry.{ProgramEntry}
use Rattle.xbgp_manifest.specs.Manifests.{Manifest, IsManifest, IsProgram, is_name, is_fuel, entry_shapes, room_of}
use Rattle.xbgp_manifest.specs.Manifests.{in_slot, in_no_slot, name_text, point_text, code_text, map_shape, map_keys}
use Rattle.xbgp_manifest.specs.Manifests.{map_fields, map_entry, load_bad, program_keys, program_fields, named_program}
use Rattle.xbgp_manifest.specs.Manifests.{loaded_program, program_entry, manifest_keys, maps_of, manifest_of, manifest}
use Rattle.xb_words.proofs.ListLemmas.{AllByRecursion-push}

-- a judgement of fields that gives a value
in_no_slot-ok : {A : Type 0} (judged : Judged A) (x : A) → in_no_slot judged ≡ Ok x → judged ≡ Ok x
in_no_slot-ok (Ok y) x e = let same : y ≡ x = cc e in ap Ok same
in_no_slot-ok (Err bad) x e = absurd (cc e)

name_text-is_name : (at : Location) (ms : Members) (n : List ℕ) → required at (codes "name") (text at name_text) ms ≡ Ok n → is_name n ≡ true
name_text-is_name at ms n e =
    let r = required-ok at (codes "name") (text at name_text) ms n e in
    let s = text-ok at name_text r.0 n r.1 in
    let g = some-if (is_name s.0) s.0 n s.1 in
    rw (← g.1) g.0

-- an entry whose name no earlier one has
module _ {E : Type 0} (name : E → List ℕ) (earlier : List E) (x : E) (none : list_any (λ e. bytes_eq (name x) (name e)) earlier ≡ false) where
  differs : (k : ℕ) (y : E) → k < length earlier → name (get_or earlier k y) ≢ name x
  differs k y h is = false≢true (sym (list_any-false (λ e. bytes_eq (name x) (name e)) earlier none k y h) ∙ (bytes_eq-Decides (name x) (name (get_or earlier k y))).1 (sym is))

-- the ranges of a map
abbrev ShapeKept : MapShape → Type 0
ShapeKept s = IsTrue (is_from_1_to MAX_KEY s.key) × IsTrue (is_from_1_to MAX_VALUE s.value) × IsTrue (is_from_1_to MAX_ENTRIES s.entries)

map_shape-ranges : (at : Location) (ms : Members) (s : MapShape) → map_shape at ms ≡ Ok s → ShapeKept s
unfolding map_shape
map_shape-ranges at ms s e =
    let k = bind-ok (required at (codes "key") (number at 1 MAX_KEY) ms) _ s e in
    let v = bind-ok (required at (codes "value") (number at 1 MAX_VALUE) ms) _ s k.2 in
    let n = bind-ok (required at (codes "entries") (number at 1 MAX_ENTRIES) ms) _ s v.2 in
    let kept : MapShape = record { key = k.0; value = v.0; entries = n.0 } in
    rw (← ok-injective kept s n.2) (required_number-ok at (codes "key") 1 MAX_KEY ms k.0 k.1, required_number-ok at (codes "value") 1 MAX_VALUE ms v.0 v.1, required_number-ok at (codes "entries") 1 65536 ms n.0 n.1)

map_fields-ranges : (i : ℕ) (d : Data) (m : MapEntry) → map_fields i d ≡ Ok m → IsTrue (is_name m.name) × ShapeKept m.shape
unfolding map_fields
map_fields-ranges i d m e =
    let at = location Map i in
    let t = bind-ok (table_with at map_keys d) _ m e in
    let n = bind-ok (required at (codes "name") (text at name_text) t.0) _ m t.2 in
    let s = bind-ok (map_shape at t.0) _ m n.2 in
    let kept : MapEntry = record { name = n.0; shape = s.0 } in
    rw (← ok-injective kept m s.2) (name_text-is_name at t.0 n.0 n.1, map_shape-ranges at t.0 s.0 s.1)

abbrev MapsKept : List MapEntry → Type 0
MapsKept ms = AllByRecursion ShapeKept (entry_shapes ms) × All (λ m. IsTrue (is_name m.name)) ms × AllPairs (λ a b. a.name ≢ b.name) ms

map_entry-keeps : (i : ℕ) (earlier : List MapEntry) (d : Data) (x : MapEntry) → MapsKept earlier → map_entry i earlier d ≡ Ok x → MapsKept (earlier ++ x ∷ [])
map_entry-keeps i earlier d x kept e =
    let at = location Map i in
    let b = bind-ok (map_fields i d) _ x e in
    let m = bind-must at Double (not (list_any (λ p. bytes_eq b.0.name p.name) earlier)) _ x b.2 in
    let same : b.0 ≡ x = ok-injective b.0 x m.1 in
    let none : list_any (λ p. bytes_eq x.name p.name) earlier ≡ false = rw same at (not-true _ m.0) in
    let ranges = map_fields-ranges i d x (b.1 ∙ ap Ok same) in (
      rw (map-append (λ p. p.shape) earlier (x ∷ [])) (AllByRecursion-push ShapeKept (entry_shapes earlier) x.shape kept.0 ranges.1),
      All-push (λ p. IsTrue (is_name p.name)) earlier x kept.1 ranges.0,
      all_pairs_push (λ p q. p.name ≢ q.name) earlier x kept.2 (differs (λ p. p.name) earlier x none),
    )

maps-kept : (ds : List Data) (ms : List MapEntry) → judged_entries map_entry ds ≡ Ok ms → (length ms ≡ length ds) × MapsKept ms
unfolding judged_entries
maps-kept ds ms e = (
  omega (arith, length-judged_from map_entry 1 [] ds ms e),
  judged_from-keeps map_entry MapsKept map_entry-keeps 1 [] ds ms (tt, λ k d h. absurd (omega arith), λ i j d h g. absurd (omega arith)) e,
)

-- as many maps as tables
pub length-maps : (vs : List Value) (ms : List MapEntry) → length vs ≤ MAX_MAPS → judged_entries map_entry (map view vs) ≡ Ok ms → length ms ≤ MAX_MAPS
length-maps vs ms few e = omega (arith, few, length-map vs view, (maps-kept (map view vs) ms e).0)

-- a program whose code was loaded: it has no fault
loaded_at-cases : (i : ℕ) (p x : ProgramEntry) (o : Option LoadFault)
    → (elim o as (λ _. Result (List ℕ) ManifestFault) [ None ↦ Ok p.code | Some fault ↦ Err (load_bad i fault) ] >>= (λ code. Ok (record p { code = code }))) ≡ Ok x → (p ≡ x) × (o ≡ None)
loaded_at-cases i p x None e = (ok-injective p x e, refl)
loaded_at-cases i p x (Some fault) e = absurd (cc e)

-- loading code changes nothing of a program
pub loaded_program-same : (i : ℕ) (p x : ProgramEntry) → loaded_program i p ≡ Ok x → p ≡ x
loaded_program-same i p x e = (loaded_at-cases i p x (load_fault (helper_allowed p.point) p.code) e).0

program_fields-ranges : (i : ℕ) (d : Data) (p : ProgramEntry) → program_fields i d ≡ Ok p → IsTrue (is_name p.name) × IsTrue (is_fuel p.fuel)
unfolding program_fields
program_fields-ranges i d p e =
    let at = location Program i in
    let t = bind-ok (table_with at program_keys d) _ p e in
    let n = bind-ok (required at (codes "name") (text at name_text) t.0) _ p t.2 in
    let w = bind-ok (required at (codes "point") (text at point_text) t.0) _ p n.2 in
    let f = bind-ok (required at (codes "fuel") (number at 1 MAX_FUEL) t.0) _ p w.2 in
    let c = bind-ok (required at (codes "code") (text at code_text) t.0) _ p f.2 in
    let kept : ProgramEntry = record { name = n.0; point = w.0; fuel = f.0; code = c.0 } in
    rw (← ok-injective kept p c.2) (name_text-is_name at t.0 n.0 n.1, required_number-ok at (codes "fuel") 1 MAX_FUEL t.0 f.0 f.1)

abbrev ProgramsKept : List ProgramEntry → Type 0
ProgramsKept ps = All IsProgram ps × AllPairs (λ a b. a.name ≢ b.name) ps

program_entry-keeps : (i : ℕ) (earlier : List ProgramEntry) (d : Data) (x : ProgramEntry) → ProgramsKept earlier → program_entry i earlier d ≡ Ok x → ProgramsKept (earlier ++ x ∷ [])
program_entry-keeps i earlier d x kept e =
    let at = location Program i in
    let n = bind-ok (in_no_slot (named_program i earlier d)) _ x e in
    let l = loaded_at-cases i n.0 x (load_fault (helper_allowed n.0.point) n.0.code) n.2 in
    let named : named_program i earlier d ≡ Ok x = in_no_slot-ok (named_program i earlier d) n.0 n.1 ∙ ap Ok l.0 in
    let b = bind-ok (program_fields i d) _ x named in
    let m = bind-must at Double (not (list_any (λ p. bytes_eq b.0.name p.name) earlier)) _ x b.2 in
    let same : b.0 ≡ x = ok-injective b.0 x m.1 in
    let none : list_any (λ p. bytes_eq x.name p.name) earlier ≡ false = rw same at (not-true _ m.0) in
    let ranges = program_fields-ranges i d x (b.1 ∙ ap Ok same) in
    let loaded : load_fault (helper_allowed x.point) x.code ≡ None = rw l.0 at l.1 in (
      All-push IsProgram earlier x kept.0
          (record { name = ranges.0; fuel = ranges.1; loaded = loaded; calls = CallsOnly-load_fault (helper_allowed x.point) x.code loaded }),
      all_pairs_push (λ p q. p.name ≢ q.name) earlier x kept.1 (differs (λ p. p.name) earlier x none),
    )

programs-kept : (ds : List Data) (ps : List ProgramEntry) → judged_entries program_entry ds ≡ Ok ps → (length ps ≡ length ds) × ProgramsKept ps
unfolding judged_entries
programs-kept ds ps e = (
  omega (arith, length-judged_from program_entry 1 [] ds ps e),
  judged_from-keeps program_entry ProgramsKept program_entry-keeps 1 [] ds ps (λ k d h. absurd (omega arith), λ i j d h g. absurd (omega arith)) e,
)

-- what the maps of a table keep
record MapsGood (ms : List MapEntry) : Type 0 where
  pub few : length ms ≤ MAX_MAPS
  pub kept : MapsKept ms
  pub room : room_of ms ≤ MAX_ROOM

maps_of-good : (ms : Members) (maps : List MapEntry) → maps_of ms ≡ Ok maps → MapsGood maps
unfolding maps_of
maps_of-good ms maps e =
    let at = location Top 0 in
    let k = bind-must at Key (keys_listed manifest_keys ms) _ maps e in
    let v = bind-ok (required at (codes "version") (number at VERSION VERSION) ms) _ maps k.1 in
    let t = bind-ok (optional (codes "map") [] (list_of at MAX_MAPS) ms) _ maps v.2 in
    let p = bind-ok (judged_entries map_entry t.0) _ maps t.2 in
    let r = bind-must at Room (nat_le (room_of p.0) MAX_ROOM) _ maps p.2 in
    let kept = maps-kept t.0 p.0 p.1 in
    rw (← ok-injective p.0 maps r.1)
    (record { few = omega (arith, kept.0, length-optional_list at (codes "map") MAX_MAPS ms t.0 t.1); kept = kept.1; room = leb-true _ _ r.0 })

-- what every accepted manifest keeps
pub manifest_of-IsManifest : (ms : Members) (m : Manifest) → manifest_of ms ≡ Ok m → IsManifest m
unfolding manifest_of
manifest_of-IsManifest ms m e =
    let at = location Top 0 in
    let p = bind-ok (in_no_slot (maps_of ms)) _ m e in
    let l = bind-ok (in_no_slot (optional (codes "program") [] (list_of at MAX_PROGRAMS) ms)) _ m p.2 in
    let q = bind-ok (judged_entries program_entry l.0) _ m l.2 in
    let maps = maps_of-good ms p.0 (in_no_slot-ok (maps_of ms) p.0 p.1) in
    let listed = in_no_slot-ok (optional (codes "program") [] (list_of at MAX_PROGRAMS) ms) l.0 l.1 in
    let programs = programs-kept l.0 q.0 q.1 in
    let kept : Manifest = record { maps = p.0; programs = q.0 } in
    rw (← ok-injective kept m q.2) (record {
      limits = record {
        number = omega (arith, length-map p.0 (λ e. e.shape), maps.few);
        ranges = maps.kept.0;
        room = maps.room;
      };
      map_names = maps.kept.1;
      maps_differ = maps.kept.2;
      few_programs = omega (arith, programs.0, length-optional_list at (codes "program") MAX_PROGRAMS ms l.0 listed);
      programs = programs.1.0;
      programs_differ = programs.1.1;
    })

pub manifest-IsManifest : (octets : List ℕ) (m : Manifest) → manifest octets ≡ Ok m → IsManifest m
unfolding manifest
manifest-IsManifest octets m e = let b = bind-ok (in_no_slot (document octets)) manifest_of m e in manifest_of-IsManifest b.0 m b.2

-- a map with a new name, and with one that an earlier map has
module _ (i : ℕ) (earlier : List MapEntry) (d : Data) (m : MapEntry) (read : map_fields i d ≡ Ok m) where
  pub map_entry-new : list_any (λ e. bytes_eq m.name e.name) earlier ≡ false → map_entry i earlier d ≡ Ok m
  map_entry-new none = rw (read, none) refl

  pub map_entry-double : list_any (λ e. bytes_eq m.name e.name) earlier ≡ true → map_entry i earlier d ≡ Err (fault_at (location Map i) Double)
  map_entry-double one = rw (read, one) refl

-- a program with a new name, and with one that an earlier program has
module _ (i : ℕ) (earlier : List ProgramEntry) (d : Data) (p : ProgramEntry) (read : program_fields i d ≡ Ok p) where
  pub named_program-new : list_any (λ e. bytes_eq p.name e.name) earlier ≡ false → named_program i earlier d ≡ Ok p
  named_program-new none = rw (read, none) refl

  pub named_program-double : list_any (λ e. bytes_eq p.name e.name) earlier ≡ true → named_program i earlier d ≡ Err (fault_at (location Program i) Double)
  named_program-double one = rw (read, one) refl

-- a fault of a program's table
pub named_program-bad : (i : ℕ) (earlier : List ProgramEntry) (d : Data) (bad : FieldFault) → program_fields i d ≡ Err bad → named_program i earlier d ≡ Err bad
named_program-bad i earlier d bad read = rw read refl

-- a program whose name is new, and a fault before its code is loaded
pub program_entry-named : (i : ℕ) (earlier : List ProgramEntry) (d : Data) (p : ProgramEntry) → named_program i earlier d ≡ Ok p → program_entry i earlier d ≡ loaded_program i p
program_entry-named i earlier d p named = rw named refl

pub program_entry-bad : (i : ℕ) (earlier : List ProgramEntry) (d : Data) (bad : FieldFault) → named_program i earlier d ≡ Err bad → program_entry i earlier d ≡ Err (in_slot 0 bad)
program_entry-bad i earlier d bad named = rw named refl

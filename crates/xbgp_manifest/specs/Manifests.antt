-- The manifest that a text gives, or its first fault (this project's own).
use Rattle.std.specs.Prelude.{◌≡◌, ◌≢◌, ℕ, ◌*◌, ◌≤◌, Bool, List, [], ◌∷◌, length, map, sum_by, Option, Some, None}
use Rattle.std.specs.Prelude.{Result, Ok, Err, codes, nat_le, ◌==◌, ◌&&◌, ◌||◌, not, if◌then◌else◌, IsTrue}
use Rattle.std.specs.List.{list_any, list_all, All, AllPairs}
use Rattle.std.specs.Result.{result_map_both, result_ok}
use Rattle.std.specs.Str.{bytes_eq}
use Rattle.toml.specs.Data.{Data, Members}
use Rattle.hex.specs.Hex.{decode_of}
use Rattle.bpf_insn.specs.declared.fault.LoadFault.{LoadFault}
use Rattle.bpf_insn.specs.declared.fault.LoadKind.{LoadKind}
use Rattle.bpf_insn.specs.declared.fault.LoadKind.TheVariants as loads
use Rattle.bpf_insn.specs.Loading.{load_fault}
use Rattle.bpf_insn.specs.Sound.{CallsOnly}
use Rattle.xb_domain.specs.Points.{helper_allowed}
use Rattle.xb_domain.specs.declared.point.Point.{Point}
use Rattle.xb_domain.specs.declared.point.Point.TheVariants.{Receive, Inbound, Decision, Outbound, Encode}
use Rattle.xb_domain.specs.declared.bad.BadKind.{BadKind}
use Rattle.xb_domain.specs.declared.bad.BadKind.TheVariants as kinds
use Rattle.xb_domain.specs.declared.bad.Part.TheVariants.{Top, Map, Program}
use Rattle.xb_fields.specs.declared.fault.FieldFault.{FieldFault}
use Rattle.xb_fields.specs.declared.fault.Location.{Location}
use Rattle.xb_fields.specs.Fields.{Judged, ◌>>=◌, location, must, document, keys_listed, table_with, number, text}
use Rattle.xb_fields.specs.Fields.{required, optional, list_of, judged_entries, is_between}
use Rattle.xbgp_maps.specs.declared.shape.MapShape.{MapShape}
use Rattle.xbgp_maps.specs.declared.limits.TheConstants.{MAX_MAPS, MAX_KEY, MAX_VALUE, MAX_ENTRIES, MAX_ROOM}
use Rattle.xbgp_maps.specs.Mappings.{entry_size, AreWithinLimits}
use Rattle.xbgp_manifest.specs.declared.limits.TheConstants.{VERSION, MAX_PROGRAMS, MAX_FUEL, MAX_NAME, MAX_DIGITS}
use Rattle.xbgp_manifest.specs.declared.entries.MapEntry.{MapEntry}
use Rattle.xbgp_manifest.specs.declared.entries.ProgramEntry.{ProgramEntry}
use Rattle.xbgp_manifest.specs.declared.fault.ManifestFault.{ManifestFault}

-- the maps that programs share, and the programs, in the order of the text
pub record Manifest : Type 0 where
  pub maps : List MapEntry
  pub programs : List ProgramEntry

-- no map and no program
abbrev pub no_manifest : Manifest
no_manifest = record { maps = []; programs = [] }

-- a fault of fields, in a slot of code
abbrev pub in_slot : ℕ → FieldFault → ManifestFault
in_slot slot fault = record { kind = fault.kind; part = fault.part; index = fault.index; slot = slot }

-- what is judged of fields, whose fault is in no slot
abbrev pub in_no_slot : {A : Type 0} → Judged A → Result A ManifestFault
in_no_slot judged = result_map_both (λ x. x) (in_slot 0) judged

-- a to z, 0 to 9, _ and -
abbrev pub is_name_character : ℕ → Bool
is_name_character c = nat_le 97 c && nat_le c 122 || nat_le 48 c && nat_le c 57 || c == 95 || c == 45

-- 1 to MAX_NAME of these characters
abbrev pub is_name : List ℕ → Bool
is_name s = is_between 1 MAX_NAME (length s) && list_all is_name_character s

-- how many instructions a run may have
abbrev pub is_fuel : ℕ → Bool
is_fuel n = is_between 1 MAX_FUEL n

-- the shapes of maps, in order
abbrev pub entry_shapes : List MapEntry → List MapShape
entry_shapes maps = map (λ m. m.shape) maps

-- the octets that all entries of maps may take together
abbrev pub room_of : List MapEntry → ℕ
room_of maps = sum_by (λ s. s.entries * entry_size s) (entry_shapes maps)

-- what every accepted program keeps: its ranges, that the loader takes its code with the helpers of its point, and
-- that the code calls no other helper
pub record IsProgram (p : ProgramEntry) : Type 0 where
  pub name : IsTrue (is_name p.name)
  pub fuel : IsTrue (is_fuel p.fuel)
  pub loaded : load_fault (helper_allowed p.point) p.code ≡ None
  pub calls : CallsOnly (helper_allowed p.point) p.code

-- what every accepted manifest keeps: ranges, limits, that names differ, and loaded code
pub record IsManifest (m : Manifest) : Type 0 where
  pub limits : AreWithinLimits (entry_shapes m.maps)
  pub map_names : All (λ e. IsTrue (is_name e.name)) m.maps
  pub maps_differ : AllPairs (λ a b. a.name ≢ b.name) m.maps
  pub few_programs : length m.programs ≤ MAX_PROGRAMS
  pub programs : All IsProgram m.programs
  pub programs_differ : AllPairs (λ a b. a.name ≢ b.name) m.programs

-- a text that is a name
abbrev pub name_text : List ℕ → Option (List ℕ)
name_text s = if is_name s then Some s else None

-- the word of a point
abbrev pub point_text : List ℕ → Option Point
point_text s =
    if bytes_eq s (codes "receive") then Some Receive
    else if bytes_eq s (codes "inbound") then Some Inbound
    else if bytes_eq s (codes "decision") then Some Decision
    else if bytes_eq s (codes "outbound") then Some Outbound
    else if bytes_eq s (codes "encode") then Some Encode
    else None

-- octets as hexadecimal digits of either case: an even number of them, at most MAX_DIGITS
abbrev pub code_text : List ℕ → Option (List ℕ)
code_text s = if nat_le (length s) MAX_DIGITS then result_ok (decode_of s) else None

-- the widths of a map, and its most entries
unfoldable pub map_shape : Location → Members → Judged MapShape
map_shape at ms = do
  key ← required at (codes "key") (number at 1 MAX_KEY) ms
  value ← required at (codes "value") (number at 1 MAX_VALUE) ms
  count ← required at (codes "entries") (number at 1 MAX_ENTRIES) ms
  Ok (record { key = key; value = value; entries = count })

-- the keys of a map's table
abbrev pub map_keys : List (List ℕ)
map_keys = codes "name" ∷ codes "key" ∷ codes "value" ∷ codes "entries" ∷ []

-- what a map's table says
unfoldable pub map_fields : ℕ → Data → Judged MapEntry
map_fields i d = do
  ms ← table_with (location Map i) map_keys d
  n ← required (location Map i) (codes "name") (text (location Map i) name_text) ms
  shape ← map_shape (location Map i) ms
  Ok (record { name = n; shape = shape })

-- a map, whose name no earlier one has
abbrev pub map_entry : ℕ → List MapEntry → Data → Judged MapEntry
map_entry i earlier d = do
  m ← map_fields i d
  _ ← must (location Map i) kinds.Double (not (list_any (λ e. bytes_eq m.name e.name) earlier))
  Ok m

-- the kind of a manifest's fault for a fault of bytecode
abbrev pub load_kind : LoadKind → BadKind
load_kind loads.Length = kinds.Length
load_kind loads.TooLong = kinds.TooLong
load_kind loads.Opcode = kinds.Opcode
load_kind loads.Register = kinds.Register
load_kind loads.Reserved = kinds.Reserved
load_kind loads.WidePair = kinds.WidePair
load_kind loads.Jump = kinds.Jump
load_kind loads.WriteR10 = kinds.WriteR10
load_kind (loads.Helper number) = kinds.Helper
load_kind loads.OpenEnd = kinds.OpenEnd

-- a fault of the code of the program at a position
abbrev pub load_bad : ℕ → LoadFault → ManifestFault
load_bad i fault = record { kind = load_kind fault.kind; part = Program; index = i; slot = fault.slot }

-- code that the loader takes with the helpers of a point
abbrev pub loaded_at : ℕ → Point → List ℕ → Result (List ℕ) ManifestFault
loaded_at i point code =
    elim (load_fault (helper_allowed point) code) [ None ↦ Ok code | Some fault ↦ Err (load_bad i fault) ]

-- the keys of a program's table
abbrev pub program_keys : List (List ℕ)
program_keys = codes "name" ∷ codes "point" ∷ codes "fuel" ∷ codes "code" ∷ []

-- what a program's table says, before its code is loaded
unfoldable pub program_fields : ℕ → Data → Judged ProgramEntry
program_fields i d = do
  ms ← table_with (location Program i) program_keys d
  n ← required (location Program i) (codes "name") (text (location Program i) name_text) ms
  point ← required (location Program i) (codes "point") (text (location Program i) point_text) ms
  fuel ← required (location Program i) (codes "fuel") (number (location Program i) 1 MAX_FUEL) ms
  octets ← required (location Program i) (codes "code") (text (location Program i) code_text) ms
  Ok (record { name = n; point = point; fuel = fuel; code = octets })

-- a program after its code was loaded
abbrev pub loaded_program : ℕ → ProgramEntry → Result ProgramEntry ManifestFault
loaded_program i p = do
  code ← loaded_at i p.point p.code
  Ok (record p { code = code })

-- what a program's table says, whose name no earlier program has
abbrev pub named_program : ℕ → List ProgramEntry → Data → Judged ProgramEntry
named_program i earlier d = do
  p ← program_fields i d
  _ ← must (location Program i) kinds.Double (not (list_any (λ e. bytes_eq p.name e.name) earlier))
  Ok p

-- a program; its code is loaded last
abbrev pub program_entry : ℕ → List ProgramEntry → Data → Result ProgramEntry ManifestFault
program_entry i earlier d = do
  p ← in_no_slot (named_program i earlier d)
  loaded_program i p

-- the keys of the whole text
abbrev pub manifest_keys : List (List ℕ)
manifest_keys = codes "version" ∷ codes "map" ∷ codes "program" ∷ []

-- the maps that a table gives, with all that is judged before programs: the room of all maps after the last of them
unfoldable pub maps_of : Members → Judged (List MapEntry)
maps_of ms = do
  _ ← must (location Top 0) kinds.Key (keys_listed manifest_keys ms)
  _ ← required (location Top 0) (codes "version") (number (location Top 0) VERSION VERSION) ms
  tables ← optional (codes "map") [] (list_of (location Top 0) MAX_MAPS) ms
  maps ← judged_entries map_entry tables
  _ ← must (location Top 0) kinds.Room (nat_le (room_of maps) MAX_ROOM)
  Ok maps

-- the manifest that a table gives: maps, and then programs
unfoldable pub manifest_of : Members → Result Manifest ManifestFault
manifest_of ms = do
  maps ← in_no_slot (maps_of ms)
  listed ← in_no_slot (optional (codes "program") [] (list_of (location Top 0) MAX_PROGRAMS) ms)
  programs ← judged_entries program_entry listed
  Ok (record { maps = maps; programs = programs })

-- the manifest that a text gives, or its first fault
unfoldable pub manifest : List ℕ → Result Manifest ManifestFault
manifest octets = in_no_slot (document octets) >>= manifest_of

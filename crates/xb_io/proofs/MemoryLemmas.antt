-- A shelf and a sink in memory.
use Rattle.std.proofs.Common.{◌≡◌, ℕ, Bool, true, false, cond, List, [], ◌∷◌, Option, Some, String, Vec, refl, sym, ap}
use Rattle.std.proofs.Common.{◌∙◌}
use Rattle.std.proofs.lemmas.Map.Text.{is_eq-slice_cmp, btree_map_updates_text}
use Rattle.std.specs.BTreeMap.{BTreeMap, UpdatesBy, is_at, get_by_text}
use Rattle.std.specs.Cmp.Lexicographic.{slice_cmp}
use Rattle.std.specs.Map.{lookup}
use Rattle.std.specs.Option.{option_map}
use Rattle.std.specs.Ordering.{nat_cmp, is_eq}
use Rattle.std.specs.Str.{bytes_eq}
use Rattle.std.specs.String.{string_cmp, string_bytes}
use Rattle.std.specs.declared.alloc.Global.{Global}
use Rattle.xb_io.specs.Causes.{file_named}
use Rattle.xb_io.specs.Entries.{files_of}
use Rattle.xb_io.specs.Memories.{HoldsAlso}

abbrev named : List (String Global × Vec ℕ Global) → List ℕ → Option (Vec ℕ Global)
named es name = lookup (is_at (λ k. slice_cmp nat_cmp name (string_bytes k))) es

-- a look-up by a name among the entries is one among the files
pub file_named_in_entries : (es : List (String Global × Vec ℕ Global)) (name : List ℕ)
    → file_named (files_of es) name ≡ option_map (λ v. v.items) (named es name)
file_named_in_entries [] name = refl
file_named_in_entries (e ∷ es) name =
    ap (λ (b : Bool). cond b (Some e.1.items) (file_named (files_of es) name))
    (sym (is_eq-slice_cmp name (string_bytes e.0)))
    ∙ elim (is_eq (slice_cmp nat_cmp name (string_bytes e.0))) as
    (λ b. cond b (Some e.1.items) (file_named (files_of es) name)
    ≡ option_map (λ v. v.items) (cond b (Some e.1) (named es name))) [
      | true ↦ refl
      | false ↦ file_named_in_entries es name
    ]

pub HoldsAlso-insert : (old new : BTreeMap (String Global) (Vec ℕ Global)) (name : List ℕ) (octets : Vec ℕ Global)
    → UpdatesBy string_cmp (λ k. slice_cmp nat_cmp name (string_bytes k)) old new (Some octets)
    → HoldsAlso (files_of old.entries) (files_of new.entries) name octets.items
HoldsAlso-insert old new name octets updates = λ other.
    file_named_in_entries new.entries other
    ∙ ap (option_map (λ v. v.items)) (btree_map_updates_text name old new (Some octets) updates other)
    ∙ elim (bytes_eq name other) as (λ b. option_map (λ v. v.items) (cond b (Some octets) (get_by_text old other))
    ≡ cond b (Some octets.items) (file_named (files_of old.entries) other)) [
      | true ↦ refl
      | false ↦ sym (file_named_in_entries old.entries other)
    ]

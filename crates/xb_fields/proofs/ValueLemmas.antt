-- Values and tables of TOML beside the data that definitions see.
use Rattle.std.proofs.Common.{◌≡◌, ℕ, List, [], ◌∷◌, length, map, ◌<◌, ◌≤◌, Ok, Err, Some, String, Global, Bor}
use Rattle.std.proofs.Common.{BTreeMap, string_bytes, refl, ap, le-leb}
use Rattle.std.proofs.lemmas.Bool.{lt-leb}
use Rattle.std.specs.List.{list_any, list_all}
use Rattle.std.specs.BTreeMap.{keys}
use Rattle.std.specs.Str.{bytes_eq}
use Rattle.toml.specs.Data.{Data, as_array}
use Rattle.toml.specs.View.{view, items_view, members_view, table_view}
use Rattle.toml.specs.declared.value.Value.{Value}
use Rattle.xb_fields.specs.Fields.{data_of, keys_of, is_listed, keys_listed, list_of, fault_at}
use Rattle.xb_fields.specs.declared.fault.Location.{Location}
use Rattle.xb_domain.specs.declared.bad.BadKind.TheVariants.{Count}
use Rattle.std.proofs.lemmas.List.{length-map}

-- the items of an array are its values
pub data_of-items_view : (vs : List Value) → data_of (items_view vs) ≡ map view vs
data_of-items_view [] = refl
data_of-items_view (v ∷ vs) = ap (λ ds. view v ∷ ds) (data_of-items_view vs)

-- an array of no more values, and of more, than a list may have
pub list_of-ok : (at : Location) (most : ℕ) (d : Data) (vs : List Value) → as_array d ≡ Some (items_view vs) → length vs ≤ most → list_of at most d ≡ Ok (map view vs)
unfolding list_of
list_of-ok at most d vs is few = rw (is, data_of-items_view vs, length-map vs view, le-leb (length vs) most few)

pub list_of-bad : (at : Location) (most : ℕ) (d : Data) (vs : List Value) → as_array d ≡ Some (items_view vs) → most < length vs → list_of at most d ≡ Err (fault_at at Count)
unfolding list_of
list_of-bad at most d vs is many = rw (is, data_of-items_view vs, length-map vs view, lt-leb (length vs) most many)

-- a key beside texts that are lent
is_listed-lent : (listed : List (Bor (List ℕ))) (key : List ℕ) → is_listed (map (λ one. one.now) listed) key ≡ list_any (λ one. bytes_eq key one.now) listed
is_listed-lent [] key = refl
is_listed-lent (one ∷ listed) key = rw (is_listed-lent listed key)

list_all-keys_of : (listed : List (Bor (List ℕ))) (es : List (String Global × Value))
    → list_all (λ key. list_any (λ one. bytes_eq (string_bytes key) one.now) listed) (map (λ e. e.0) es) ≡ list_all (is_listed (map (λ one. one.now) listed)) (keys_of (members_view es))
list_all-keys_of listed [] = refl
list_all-keys_of listed (e ∷ es) = rw (is_listed-lent listed (string_bytes e.0), list_all-keys_of listed es)

-- the keys of a map beside those of its members
pub list_all-keys_listed : (listed : List (Bor (List ℕ))) (t : BTreeMap (String Global) Value)
    → list_all (λ key. list_any (λ one. bytes_eq (string_bytes key) one.now) listed) (keys t) ≡ keys_listed (map (λ one. one.now) listed) (table_view t)
unfolding keys_listed
list_all-keys_listed listed t = list_all-keys_of listed t.entries

-- What is written is read again.
use Rattle.std.proofs.Common.{◌≡◌, ◌≢◌, inl, inr, refl, sym, ap, ◌∙◌, ℕ, zero, suc, ◌+◌, ◌-◌, ◌*◌, ◌/◌, ◌%◌, ◌^◌, ◌<◌}
use Rattle.std.proofs.Common.{◌≤◌, ◌&&◌, Bool, true, false, List, [], ◌∷◌, ◌++◌, length, take, drop, map, Option, Some}
use Rattle.std.proofs.Common.{None, arith, add-zero, nat_le, nat_lt, flat_map}
use Rattle.std.specs.Prelude.{is_some, slice_index, slice_range, if◌then◌else◌, ◌==◌, not}
use Rattle.std.specs.Int.{w16, w32, from_be_bytes}
use Rattle.std.specs.List.{AllByRecursion, concat}
use Rattle.std.proofs.lemmas.Bool.{cases_Bool, and_parts, eq-eqb, leb-true, le-leb, le-ltb, ne_eqb}
use Rattle.std.proofs.lemmas.List.{length-append, append_assoc, append-nil, drop_at, length-take-le, get_or-append-add}
use Rattle.std.proofs.lemmas.Nat.{from_be_bytes-to_be_bytes_2, from_be_bytes-to_be_bytes_4, pow_pos, pow-add}
use Rattle.std.proofs.Math.Nat.{mul-div_cancel, mul-mod_left, mul_assoc, div-one}
use Rattle.xb_words.specs.Octets.{two_at, two_octets, four_at, four_octets}
use Rattle.xb_words.specs.Cut.{cut, IsStable, IsItem, Pieces}
use Rattle.xb_words.proofs.CutLemmas.{cut-concat}
use Rattle.xb_wire.specs.Messages.{Update, update_body, update_of, split, message_size, IsMessage}
use Rattle.xb_wire.proofs.MessageLemmas.{message_size_is_size, message_size_is_stable}
use Rattle.xb_words.specs.Optional.{or_else}
use Rattle.xb_wire.specs.Messages.{Notification}
use Rattle.xb_wire.specs.declared.numbers.TheConstants.{BAD_BGP_IDENTIFIER, BAD_PEER_AS, UNACCEPTABLE_HOLD_TIME}
use Rattle.bgp_open.specs.Opens.{as_fault, as_in, as_or_field, fills, fixed_fault, is_short_hold, judge_open4}
use Rattle.bgp_open.specs.Opens.{open_error, open_seen4, parameters, parameters_fault, wide_as}
use Rattle.bgp_write.specs.Written.{as_parameter, open_body, wide_open_body}
use Rattle.bgp_write.proofs.PackingLemmas.{slice_range-part}
use Rattle.xb_values.specs.Prefixes.{Prefix, prefix_of, prefix_at, prefix_octets, prefix_size, prefixes, are_prefixes}
use Rattle.xb_values.specs.Prefixes.{octets_for, cleared, IsPrefix}
use Rattle.xb_values.proofs.PrefixLemmas.{prefix_size_is_size}

-- octets after a prefix do not change its size
pub prefix_is_stable : IsStable prefix_size
prefix_is_stable [] t n e = cc
prefix_is_stable (len ∷ rest) t n e =
    elim (cases_Bool (nat_le len 32 && nat_le (octets_for len) (length rest))) [
      | inl fits ↦
          let parts = and_parts (nat_le len 32) (nat_le (octets_for len) (length rest)) fits in
          let here : octets_for len ≤ length rest = leb-true (octets_for len) (length rest) parts.1 in
          let more : nat_le (octets_for len) (length (rest ++ t)) ≡ true = le-leb (octets_for len) (length (rest ++ t)) (omega (arith, here, length-append rest t)) in
          let size : Some (1 + octets_for len) ≡ Some n = rw fits at e in
          rw (parts.0, more) size
      | inr short ↦ let none : None ≡ Some n = rw short at e in cc none
    ]

-- an octet of an address that the length of its prefix does not reach is 0
cleared_octet : (addr len i : ℕ) → cleared addr len ≡ addr → i + 8 + len ≤ 32 → addr / 2 ^ i % 256 ≡ 0
cleared_octet addr len i clear passes =
    let e = 32 - len in
    let q = addr / 2 ^ e in
    let r = 2 ^ (e - i - 8) in
    let exponent : e ≡ e - i - 8 + 8 + i = omega (arith, passes) in
    let power : 2 ^ e ≡ r * 256 * 2 ^ i =
    ap (λ n. 2 ^ n) exponent ∙ pow-add 2 (e - i - 8 + 8) i ∙ ap (λ n. n * 2 ^ i) (pow-add 2 (e - i - 8) 8) in
    let product : addr ≡ q * r * 256 * 2 ^ i =
    sym clear ∙ ap (λ n. q * n) power ∙ sym (mul_assoc q (r * 256) (2 ^ i)) ∙ ap (λ n. n * 2 ^ i) (sym (mul_assoc q r 256)) in
    ap (λ n. n / 2 ^ i % 256) product ∙ ap (λ n. n % 256) (mul-div_cancel (q * r * 256) (pow_pos i)) ∙ mul-mod_left (q * r) 256

-- so an address is read again from the octets that are reached
abbrev four : ℕ → ℕ → ℕ → ℕ → ℕ
four a b c d = from_be_bytes w32 (a ∷ b ∷ c ∷ d ∷ [])

cleared_last_octet : (addr len : ℕ) → cleared addr len ≡ addr → len ≤ 24 → 0 ≡ addr % 256
cleared_last_octet addr len clear passes = sym (ap (λ n. n % 256) (sym (div-one addr)) ∙ cleared_octet addr len 0 clear (omega (arith, passes)))

four_at-octets : (k len addr : ℕ) → k ≤ 4 → len ≤ 8 * k → addr < 2 ^ 32 → cleared addr len ≡ addr → four_at (len ∷ take k (four_octets addr)) 1 ≡ addr
four_at-octets zero len addr few reach word clear =
    ap (λ n. four n 0 0 0) (sym (cleared_octet addr len 24 clear (omega (arith, reach))))
    ∙ ap (λ n. four (addr / 2 ^ 24 % 256) n 0 0) (sym (cleared_octet addr len 16 clear (omega (arith, reach))))
    ∙ ap (λ n. four (addr / 2 ^ 24 % 256) (addr / 2 ^ 16 % 256) n 0) (sym (cleared_octet addr len 8 clear (omega (arith, reach))))
    ∙ ap (λ n. four (addr / 2 ^ 24 % 256) (addr / 2 ^ 16 % 256) (addr / 2 ^ 8 % 256) n) (cleared_last_octet addr len clear (omega (arith, reach)))
    ∙ from_be_bytes-to_be_bytes_4 addr word
four_at-octets (suc zero) len addr few reach word clear =
    ap (λ n. four (addr / 2 ^ 24 % 256) n 0 0) (sym (cleared_octet addr len 16 clear (omega (arith, reach))))
    ∙ ap (λ n. four (addr / 2 ^ 24 % 256) (addr / 2 ^ 16 % 256) n 0) (sym (cleared_octet addr len 8 clear (omega (arith, reach))))
    ∙ ap (λ n. four (addr / 2 ^ 24 % 256) (addr / 2 ^ 16 % 256) (addr / 2 ^ 8 % 256) n) (cleared_last_octet addr len clear (omega (arith, reach)))
    ∙ from_be_bytes-to_be_bytes_4 addr word
four_at-octets (suc (suc zero)) len addr few reach word clear =
    ap (λ n. four (addr / 2 ^ 24 % 256) (addr / 2 ^ 16 % 256) n 0) (sym (cleared_octet addr len 8 clear (omega (arith, reach))))
    ∙ ap (λ n. four (addr / 2 ^ 24 % 256) (addr / 2 ^ 16 % 256) (addr / 2 ^ 8 % 256) n) (cleared_last_octet addr len clear (omega (arith, reach)))
    ∙ from_be_bytes-to_be_bytes_4 addr word
four_at-octets (suc (suc (suc zero))) len addr few reach word clear =
    ap (λ n. four (addr / 2 ^ 24 % 256) (addr / 2 ^ 16 % 256) (addr / 2 ^ 8 % 256) n) (cleared_last_octet addr len clear (omega (arith, reach)))
    ∙ from_be_bytes-to_be_bytes_4 addr word
four_at-octets (suc (suc (suc (suc zero)))) len addr few reach word clear = from_be_bytes-to_be_bytes_4 addr word
four_at-octets (suc (suc (suc (suc (suc k))))) len addr few reach word clear = absurd (omega (arith, few))

prefix_at-prefix_octets : (p : Prefix) → IsPrefix p → prefix_at (prefix_octets p) ≡ p
prefix_at-prefix_octets p is =
    ap (λ a. prefix_of a p.len) (four_at-octets (octets_for p.len) p.len p.addr (omega (arith, is.len)) (omega arith) is.addr is.clear)
    ∙ ap (λ a. record { addr = a; len = p.len }) is.clear

-- the octets of a prefix are one item
pub prefix_is_item : (p : Prefix) → IsPrefix p → IsItem prefix_size (prefix_octets p)
prefix_is_item p is =
    let k = octets_for p.len in
    let size : length (take k (four_octets p.addr)) ≡ k = length-take-le k (four_octets p.addr) (omega (arith, is.len)) in
    rw (le-leb p.len 32 is.len, size, le-leb k k (omega arith)) (ap Some (omega arith))

items_are_prefixes : (ps : List Prefix) → AllByRecursion IsPrefix ps → AllByRecursion (IsItem prefix_size) (map prefix_octets ps)
items_are_prefixes [] all = tt
items_are_prefixes (p ∷ ps) all = (prefix_is_item p all.0, items_are_prefixes ps all.1)

map-prefix_at : (ps : List Prefix) → AllByRecursion IsPrefix ps → map prefix_at (map prefix_octets ps) ≡ ps
map-prefix_at [] all = refl
map-prefix_at (p ∷ ps) all =
    ap (λ q. q ∷ map prefix_at (map prefix_octets ps)) (prefix_at-prefix_octets p all.0) ∙ ap (λ qs. p ∷ qs) (map-prefix_at ps all.1)

flat_map-prefix_octets : (ps : List Prefix) → flat_map prefix_octets ps ≡ concat (map prefix_octets ps)
flat_map-prefix_octets [] = refl
flat_map-prefix_octets (p ∷ ps) = ap (λ s. prefix_octets p ++ s) (flat_map-prefix_octets ps)

-- the octets of prefixes are cut into those of each
pub cut-flat_map : (ps : List Prefix) → AllByRecursion IsPrefix ps → cut prefix_size (flat_map prefix_octets ps) ≡ record { items = map prefix_octets ps; rest = [] }
cut-flat_map ps all =
    ap (cut prefix_size) (flat_map-prefix_octets ps ∙ sym (append-nil (concat (map prefix_octets ps))))
    ∙ cut-concat prefix_size prefix_size_is_size prefix_is_stable (map prefix_octets ps) [] (items_are_prefixes ps all) refl

-- prefixes are read from the octets of all of them
pub prefixes-flat_map : (ps : List Prefix) → AllByRecursion IsPrefix ps → prefixes (flat_map prefix_octets ps) ≡ ps
prefixes-flat_map ps all = ap (λ (c : Pieces). map prefix_at c.items) (cut-flat_map ps all) ∙ map-prefix_at ps all

-- and they fill those octets
pub are_prefixes-flat_map : (ps : List Prefix) → AllByRecursion IsPrefix ps → are_prefixes (flat_map prefix_octets ps) ≡ true
are_prefixes-flat_map ps all = ap (λ (c : Pieces). length c.rest == 0) (cut-flat_map ps all)

-- a number after other octets
two_at-append : (f s : List ℕ) (n at : ℕ) → n < 2 ^ 16 → at ≡ length f → two_at (f ++ (two_octets n ++ s)) at ≡ n
two_at-append f s n at small place =
    let all = f ++ (two_octets n ++ s) in
    let here : slice_index all at ≡ slice_index (two_octets n ++ s) 0 =
    ap (λ i. slice_index all i) (place ∙ sym (add-zero (length f))) ∙ get_or-append-add f (two_octets n ++ s) 0 0 in
    let next : slice_index all (at + 1) ≡ slice_index (two_octets n ++ s) 1 =
    ap (λ i. slice_index all (i + 1)) place ∙ get_or-append-add f (two_octets n ++ s) 1 0 in
    ap (λ x. from_be_bytes w16 (x ∷ slice_index all (at + 1) ∷ [])) here
    ∙ ap (λ x. from_be_bytes w16 (slice_index (two_octets n ++ s) 0 ∷ x ∷ [])) next
    ∙ from_be_bytes-to_be_bytes_2 n small

abbrev fit_at : ℕ → ℕ → List ℕ → Bool
fit_at w a body = not (nat_lt (length body) (4 + w)) && not (nat_lt (length body) (4 + w + a))

abbrev parts_at : ℕ → ℕ → List ℕ → Update
parts_at w a body = record { withdrawn = slice_range body 2 (2 + w); section = slice_range body (4 + w) (4 + w + a); nlri = drop (4 + w + a) body }

-- the parts of an UPDATE are read from its body
pub update_of-update_body : (u : Update) → length u.withdrawn < 2 ^ 16 → length u.section < 2 ^ 16 → update_of (update_body u) ≡ Some u
update_of-update_body u small_withdrawn small_section =
    let body = update_body u in
    let w = length u.withdrawn in
    let a = length u.section in
    let first = two_octets w ++ u.withdrawn in
    let second = first ++ two_octets a in
    let w_is : two_at body 0 ≡ w = from_be_bytes-to_be_bytes_2 w small_withdrawn in
    let joined : body ≡ first ++ (two_octets a ++ (u.section ++ u.nlri)) =
    append_assoc second u.section u.nlri ∙ append_assoc first (two_octets a) (u.section ++ u.nlri) in
    let a_is : two_at body (2 + w) ≡ a = ap (λ s. two_at s (2 + w)) joined ∙ two_at-append first (u.section ++ u.nlri) a (2 + w) small_section (omega arith) in
    let size : length body ≡ 4 + w + a + length u.nlri = omega (arith, ap length joined, length-append u.withdrawn (two_octets a ++ (u.section ++ u.nlri)), length-append u.section u.nlri) in
    let one : not (nat_lt (length body) (4 + w)) ≡ true = ap not (le-ltb (length body) (4 + w) (omega (arith, size))) in
    let two : not (nat_lt (length body) (4 + w + a)) ≡ true = ap not (le-ltb (length body) (4 + w + a) (omega (arith, size))) in
    let withdrawn : slice_range body 2 (2 + w) ≡ u.withdrawn =
    slice_range-part body (two_octets w) u.withdrawn (two_octets a ++ (u.section ++ u.nlri)) 2 (2 + w) joined refl (omega arith) in
    let front : length second ≡ 4 + w = omega (arith, length-append u.withdrawn (two_octets a)) in
    let section : slice_range body (4 + w) (4 + w + a) ≡ u.section = slice_range-part body second u.section u.nlri (4 + w) (4 + w + a) refl (omega (arith, front)) (omega (arith, front)) in
    let nlri : drop (4 + w + a) body ≡ u.nlri = drop_at (second ++ u.section) u.nlri (4 + w + a) (omega (arith, front, length-append second u.section)) in
    ap (λ n. if fit_at n (two_at body (2 + n)) body then Some (parts_at n (two_at body (2 + n)) body) else None) w_is
    ∙ ap (λ n. if fit_at w n body then Some (parts_at w n body) else None) a_is
    ∙ rw (one, two, withdrawn, section, nlri) refl

-- the body of an OPEN has its fields
pub open_body-fields : (asn hold id : ℕ) → asn < 2 ^ 16 → hold < 2 ^ 16 → id < 2 ^ 32 → (two_at (open_body asn hold id) 1 ≡ asn) × (two_at (open_body asn hold id) 3 ≡ hold) × (four_at (open_body asn hold id) 5 ≡ id)
open_body-fields asn hold id small_asn small_hold small_id = (from_be_bytes-to_be_bytes_2 asn small_asn, from_be_bytes-to_be_bytes_2 hold small_hold, from_be_bytes-to_be_bytes_4 id small_id)

-- the parameter of an AS number has no fault, and that number is found
as_parameter_is_good : (asn : ℕ) → parameters_fault (as_parameter asn) ≡ None
unfolding cut fills parameters_fault
as_parameter_is_good asn = refl

wide_as-as_parameter : (asn : ℕ) → asn < 2 ^ 32 → wide_as (as_parameter asn) ≡ Some asn
unfolding cut as_in wide_as
wide_as-as_parameter asn small = ap Some (from_be_bytes-to_be_bytes_4 asn small)

-- the first fault of an OPEN whose other fields are good
abbrev fault_by : ℕ → ℕ → Option Notification
fault_by hold id =
    if is_short_hold hold then Some (open_error UNACCEPTABLE_HOLD_TIME [])
    else if id == 0 then Some (open_error BAD_BGP_IDENTIFIER [])
    else None

no_fault_by : (hold id : ℕ) → is_short_hold hold ≡ false → id ≢ 0 → fault_by hold id ≡ None
no_fault_by hold id long set = rw (long, ne_eqb id 0 set) refl

-- the body of an OPEN with its AS number in four octets is accepted
pub judge_open4-wide_open_body : (asn hold id : ℕ) → asn < 2 ^ 32 → hold < 2 ^ 16 → id < 2 ^ 32 → is_short_hold hold ≡ false → id ≢ 0 → judge_open4 (wide_open_body asn hold id) asn ≡ None
unfolding judge_open4
judge_open4-wide_open_body asn hold id small_asn small_hold small_id long set =
    let body = wide_open_body asn hold id in
    let hold_is : two_at body 3 ≡ hold = from_be_bytes-to_be_bytes_2 hold small_hold in
    let id_is : four_at body 5 ≡ id = from_be_bytes-to_be_bytes_4 id small_id in
    let fixed : fixed_fault body ≡ None =
    ap (λ h. fault_by h (four_at body 5)) hold_is ∙ ap (λ i. fault_by hold i) id_is ∙ no_fault_by hold id long set in
    let last : as_fault body asn ≡ None =
    ap (λ o. if as_or_field o body == asn then None else Some (open_error BAD_PEER_AS [])) (wide_as-as_parameter asn small_asn)
    ∙ rw (eq-eqb asn asn refl) refl in
    ap (λ o. or_else o (or_else (parameters_fault (parameters body)) (as_fault body asn))) fixed
    ∙ ap (λ o. or_else o (as_fault body asn)) (as_parameter_is_good asn) ∙ last

-- and says what was written
pub open_seen4-wide_open_body : (asn hold id : ℕ) → asn < 2 ^ 32 → hold < 2 ^ 16 → id < 2 ^ 32 → open_seen4 (wide_open_body asn hold id) ≡ record { hold = hold; id = id; wide = true }
open_seen4-wide_open_body asn hold id small_asn small_hold small_id =
    let body = wide_open_body asn hold id in
    ap (λ h. record { hold = h; id = four_at body 5; wide = is_some (wide_as (parameters body)) }) (from_be_bytes-to_be_bytes_2 hold small_hold)
    ∙ ap (λ i. record { hold = hold; id = i; wide = is_some (wide_as (parameters body)) }) (from_be_bytes-to_be_bytes_4 id small_id)
    ∙ ap (λ o. record { hold = hold; id = id; wide = is_some o }) (wide_as-as_parameter asn small_asn)

-- a stream of one message is split into it
pub split-message : (m : List ℕ) → IsMessage m → split m ≡ record { items = m ∷ []; rest = [] }
split-message m is =
    ap split (sym (append-nil (m ++ []) ∙ append-nil m)) ∙ cut-concat message_size message_size_is_size message_size_is_stable (m ∷ []) [] (is, tt) refl

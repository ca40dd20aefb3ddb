-- The judgement of an attribute with other flags, another value or another width.
use Rattle.std.proofs.Common.{◌≡◌, inl, inr, refl, sym, ap, ◌∙◌, ℕ, ◌+◌, ◌/◌, ◌%◌, ◌^◌, Bool, true, false, List, []}
use Rattle.std.proofs.Common.{◌∷◌, length}
use Rattle.std.proofs.Common.{None, arith}
use Rattle.std.specs.Prelude.{bit_and, bit_or, not, slice_index, nat_lt, ◌==◌, ◌&&◌}
use Rattle.std.proofs.lemmas.Bool.{and_parts, eq-eqb, ltb-true, ne_eqb}
use Rattle.std.proofs.lemmas.Bool.Decides.{eqb_tells}
use Rattle.std.proofs.lemmas.Nat.{and_assoc, and_or_apart}
use Rattle.xb_words.specs.Octets.{four_octets}
use Rattle.bgp_attr.specs.declared.codes.TheConstants.{ORIGIN, AS_PATH, NEXT_HOP, LOCAL_PREF, AGGREGATOR}
use Rattle.bgp_attr.specs.declared.flags.TheConstants.{WELL_KNOWN, PARTIAL}
use Rattle.bgp_attr.specs.declared.rule.AttrFault.TheVariants.{Unrecognized, NextHop, Path}
use Rattle.bgp_attr.specs.Paths.{path_ok}
use Rattle.bgp_attr.specs.Routes.{kept_flags}
use Rattle.bgp_attr.specs.Rules.{attr_fault, row_fault, fault_if, is_known, is_host}
use Rattle.xbgp_view.proofs.EditsLemmas.{kept_flags-kept_flags}

-- the bits that a route does not keep are not judged
pub attr_fault-kept : (w code flags : ℕ) (value : List ℕ)
    → attr_fault w code (kept_flags flags) value ≡ attr_fault w code flags value
unfolding attr_fault
attr_fault-kept w code flags value =
    let optional : bit_and (kept_flags flags) 128 ≡ bit_and flags 128 = and_assoc 128 flags 224 in
    rw (kept_flags-kept_flags flags, optional) refl

known_other : (code k : ℕ) → is_known code ≡ false → is_known k ≡ true → (code == k) ≡ false
known_other code k unknown known = elim (eqb_tells code k) [
  | inl same ↦ let no : true ≡ false = sym known ∙ ap is_known (sym same.1) ∙ unknown in absurd (cc no)
  | inr other ↦ other.0
]

-- an attribute that is not recognized may be partial
pub attr_fault-partial : (w code flags : ℕ) (value : List ℕ) → is_known code ≡ false
    → attr_fault w code (bit_or flags PARTIAL) value ≡ attr_fault w code flags value
unfolding attr_fault
attr_fault-partial w code flags value unknown = rw (
  known_other code 1 unknown refl,
  known_other code 2 unknown refl,
  known_other code 3 unknown refl,
  known_other code 4 unknown refl,
  known_other code 5 unknown refl,
  known_other code 6 unknown refl,
  known_other code 7 unknown refl,
) (ap (λ n. fault_if (n == 0) Unrecognized) (and_or_apart 128 flags 32 refl))

-- the width of AS numbers is that of AS_PATH and AGGREGATOR
pub attr_fault-width : (w w' code flags : ℕ) (value : List ℕ) → (code ≡ AS_PATH → ⊥) → (code ≡ AGGREGATOR → ⊥)
    → attr_fault w code flags value ≡ attr_fault w' code flags value
unfolding attr_fault
attr_fault-width w w' code flags value path aggregator =
    rw (ne_eqb code 2 path, ne_eqb code 7 aggregator) refl

path_row : (flags ok ok' : Bool) → row_fault flags true (fault_if (not ok) Path) ≡ None → ok' ≡ true
    → row_fault flags true (fault_if (not ok') Path) ≡ None
path_row false ok ok' e same = absurd (cc e)
path_row true ok ok' e same = ap (λ b. fault_if (not b) Path) same

length_row : (flags fits fits' : Bool) → row_fault flags fits None ≡ None → fits' ≡ true
    → row_fault flags fits' None ≡ None
length_row false fits fits' e same = absurd (cc e)
length_row true fits fits' e same = ap (λ b. row_fault true b None) same

-- an AS_PATH and an AGGREGATOR with another value
pub attr_fault-AS_PATH : (w w' flags : ℕ) (value new : List ℕ) → attr_fault w AS_PATH flags value ≡ None
    → path_ok w' new ≡ true → attr_fault w' AS_PATH flags new ≡ None
unfolding attr_fault
attr_fault-AS_PATH w w' flags value new e ok =
    path_row (kept_flags flags == WELL_KNOWN) (path_ok w value) (path_ok w' new) e ok

pub attr_fault-AGGREGATOR : (w w' flags : ℕ) (value new : List ℕ) → attr_fault w AGGREGATOR flags value ≡ None
    → length new ≡ w' + 4 → attr_fault w' AGGREGATOR flags new ≡ None
unfolding attr_fault
attr_fault-AGGREGATOR w w' flags value new e len =
    length_row _ (length value == w + 4) (length new == w' + 4) e (eq-eqb (length new) (w' + 4) len)

-- the attributes that the speaker itself makes
pub attr_fault-origin : attr_fault 4 ORIGIN WELL_KNOWN (0 ∷ []) ≡ None
unfolding attr_fault
attr_fault-origin = refl

pub attr_fault-path : (w : ℕ) (value : List ℕ) → path_ok w value ≡ true
    → attr_fault w AS_PATH WELL_KNOWN value ≡ None
unfolding attr_fault
attr_fault-path w value ok = ap (λ b. fault_if (not b) Path) ok

pub attr_fault-local_pref : (w default : ℕ) → attr_fault w LOCAL_PREF WELL_KNOWN (four_octets default) ≡ None
unfolding attr_fault
attr_fault-local_pref w default = refl

-- the first octet of a host's address
host_octet : (address : ℕ) → is_host (address / 2 ^ 24) ≡ true → is_host (slice_index (four_octets address) 0) ≡ true
host_octet address host =
    let first = address / 2 ^ 24 in
    let small = (and_parts (not (first == 0) && not (first == 127)) (nat_lt first 224) host).1 in
    let same : first % 256 ≡ first = omega (arith, ltb-true first 224 small) in
    ap is_host same ∙ host

pub attr_fault-next_hop : (w address : ℕ) → is_host (address / 2 ^ 24) ≡ true
    → attr_fault w NEXT_HOP WELL_KNOWN (four_octets address) ≡ None
unfolding attr_fault
attr_fault-next_hop w address host = ap (λ b. fault_if (not b) NextHop) (host_octet address host)

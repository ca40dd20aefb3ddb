-- What a route becomes on its way to a peer: the attributes that are set, and by how much its section grows.
use Rattle.std.proofs.Common.{◌≡◌, inl, inr, refl, sym, ap, ◌∙◌, ℕ, ◌+◌, ◌≤◌, Bool, true, false, List, [], length, map}
use Rattle.std.proofs.Common.{Option, Some, None, arith, nat_le, nat_lt, unwrap_or}
use Rattle.std.specs.Prelude.{is_none, is_some, if◌then◌else◌, ◌==◌}
use Rattle.std.specs.Option.{option_map}
use Rattle.std.proofs.lemmas.Bool.{cases_Bool, le-leb}
use Rattle.std.proofs.lemmas.Bool.Decides.{eqb_tells}
use Rattle.xb_words.specs.Octets.{four_octets}
use Rattle.xb_domain.specs.declared.side.Side.{Side}
use Rattle.bgp_attr.specs.declared.TheConstants.{MAX_CANONICAL}
use Rattle.bgp_attr.specs.declared.codes.TheConstants.{AS_PATH, NEXT_HOP, MULTI_EXIT_DISC, LOCAL_PREF}
use Rattle.bgp_attr.specs.declared.flags.TheConstants.{WELL_KNOWN}
use Rattle.bgp_attr.specs.declared.rule.AttrFault.{AttrFault}
use Rattle.bgp_attr.specs.Paths.{path, path_ok, path_octets, prepend}
use Rattle.bgp_attr.specs.Routes.{Attribute, Route, attribute_at, with_attribute, without_attribute, canon, kept_flags}
use Rattle.bgp_attr.specs.Routes.{IsRoute}
use Rattle.bgp_attr.specs.Rules.{attr_fault, is_known, row_fault}
use Rattle.bgp_path.specs.Parts.{PathWalk, walk_over, prepended}
use Rattle.xbgp_view.specs.Views.{flags_and_length}
use Rattle.xbgp_view.proofs.ViewsLemmas.{IsEntry-attribute_at}
use Rattle.xbgp_view.proofs.EditsLemmas.{IsStrictlySortedBy-with_value}
use Rattle.spk_native.specs.Export.{marked_partial, to_external, to_internal}
use Rattle.spk_native.specs.Rebuilds.{size_of, size_if}
use Rattle.spk_native.specs.Values.{is_sound, has_sound, path_of}
use Rattle.spk_native.proofs.RebuildsLemmas.{length-without, length-with_value, length-with_value-most, at-with_value}
use Rattle.spk_native.proofs.ValuesLemmas.{path_ok-no_fault}
use Rattle.spk_native.proofs.MarksLemmas.{at-marked}

none_is : (o : Option AttrFault) → is_none o ≡ true → o ≡ None
none_is None e = refl
none_is (Some f) e = absurd (cc e)

-- an attribute that is there and is not malformed
pub record IsThere (r : Route) (code : ℕ) (a : Attribute) : Type 0 where
  pub found : attribute_at r code ≡ Some a
  pub sound : attr_fault 4 code a.flags a.value ≡ None

pub IsThere-has_sound : (r : Route) (code : ℕ) → has_sound r code ≡ true → (a : Attribute) × IsThere r code a
IsThere-has_sound r code e = go (attribute_at r code) refl e
  where
    go : (o : Option Attribute) → attribute_at r code ≡ o → is_sound code o ≡ true → (a : Attribute) × IsThere r code a
    go None is e = absurd (cc e)
    go (Some a) is e = (a, record { found = is; sound = none_is (attr_fault 4 code a.flags a.value) e })

length_row : (flags fits : Bool) (value : Option AttrFault) → row_fault flags fits value ≡ None → fits ≡ true
length_row false fits value e = absurd (cc e)
length_row true true value e = refl
length_row true false value e = absurd (cc e)

pub length-NEXT_HOP : (w flags : ℕ) (value : List ℕ) → attr_fault w NEXT_HOP flags value ≡ None → length value ≡ 4
unfolding attr_fault
length-NEXT_HOP w flags value e = elim (eqb_tells (length value) 4) [
  | inl here ↦ here.1
  | inr other ↦ absurd (cc (other.0, length_row _ (length value == 4) _ e))
]

-- a value that is longer by six octets has one octet more of length at most
size_of-longer : (a b : Attribute) → length b.value ≤ length a.value + 6 → size_of b ≤ size_of a + 7
size_of-longer a b h = elim (cases_Bool (nat_lt 255 (length b.value))) [
  | inl long ↦ elim (cases_Bool (nat_lt 255 (length a.value))) [
    | inl long' ↦ rw (long, long') (omega (arith, h))
    | inr short' ↦ rw (long, short') (omega (arith, h))
  ]
  | inr short ↦ elim (cases_Bool (nat_lt 255 (length a.value))) [
    | inl long' ↦ rw (short, long') (omega (arith, h))
    | inr short' ↦ rw (short, short') (omega (arith, h))
  ]
]

-- the path of a route after its AS_PATH was read, with a number prepended
pub record IsPrepended (r : Route) (asn : ℕ) (walk : PathWalk) : Type 0 where
  pub text : prepended walk asn ≡ path_octets 4 (prepend asn (path_of r))
  pub short : length (prepended walk asn) ≤ length (canon r) + 7
  pub fits : nat_le (length (canon (with_attribute r AS_PATH WELL_KNOWN (prepended walk asn)))) MAX_CANONICAL ≡ true
  pub bound : length (canon (with_attribute r AS_PATH WELL_KNOWN (prepended walk asn))) ≤ length (canon r) + 7

pub IsPrepended-read : (r : Route) (asn : ℕ) (walk : PathWalk) (a : Attribute) (value : List ℕ) → IsRoute r
    → length (canon r) ≤ 4096 → Some a ≡ attribute_at r AS_PATH → value ≡ a.value → walk ≡ walk_over 4 value
    → length (prepended walk asn) ≤ length walk.value + walk.width + 2 → IsPrepended r asn walk
IsPrepended-read r asn walk a value is short there v w bound =
    let text : prepended walk asn ≡ path_octets 4 (prepend asn (path_of r)) =
    ap (λ (u : PathWalk). prepended u asn) w ∙ ap (λ t. path_octets 4 (prepend asn (path 4 t))) v
    ∙ ap (λ (o : Option Attribute). path_octets 4 (prepend asn (path 4 (unwrap_or (option_map (λ a. a.value) o) []))))
    there in
    let more : length (prepended walk asn) ≤ length a.value + 6 =
    omega (arith, bound, ap (λ (u : PathWalk). length u.value) w, ap (λ (u : PathWalk). u.width) w, ap length v) in
    let entry = IsEntry-attribute_at r AS_PATH a is.entries (sym there) in
    let b : Attribute = record { flags = kept_flags WELL_KNOWN; value = prepended walk asn } in
    let grown = length-with_value r AS_PATH b is.rising in
    let old = ap size_if (sym there) in
    let most : length (canon (with_attribute r AS_PATH WELL_KNOWN (prepended walk asn))) ≤ length (canon r) + 7 =
    omega (arith, grown, old, size_of-longer a b more) in
    record {
      text = text;
      short = omega (arith, more, entry.1);
      fits = le-leb (length (canon (with_attribute r AS_PATH WELL_KNOWN (prepended walk asn)))) MAX_CANONICAL
          (omega (arith, most, short));
      bound = most;
    }

-- an AS_PATH without fault is read
pub read-AS_PATH : (r : Route) (a : Attribute) (value : List ℕ) → has_sound r AS_PATH ≡ true
    → Some a ≡ attribute_at r AS_PATH → value ≡ a.value → path_ok 4 value ≡ true
read-AS_PATH r a value e there v =
    let s = IsThere-has_sound r AS_PATH e in
    let same : s.0 ≡ a = cc (sym s.1.found ∙ sym there) in
    ap (path_ok 4) (v ∙ ap (λ (b : Attribute). b.value) (sym same)) ∙ path_ok-no_fault 4 s.0.flags s.0.value s.1.sound

-- an AS_PATH that is read is not one without segments
pub read-not-none : (r : Route) (a : Attribute) (value : List ℕ) (P : Type 0) → has_sound r AS_PATH ≡ true
    → Some a ≡ attribute_at r AS_PATH → value ≡ a.value → false ≡ path_ok 4 value → P
read-not-none r a value P e there v bad = absurd (cc (read-AS_PATH r a value e there v, bad))

size_of-four : (a : Attribute) → length a.value ≡ 4 → size_of a ≡ 7
size_of-four a e = ap (λ n. (if nat_lt 255 n then 4 else 3) + n) e

-- an address in place of a NEXT_HOP, after an AS_PATH was set
length-hop : (r : Route) (text octets : List ℕ) → IsRoute r → has_sound r NEXT_HOP ≡ true → length octets ≡ 4
    → length (canon (with_attribute (with_attribute r AS_PATH WELL_KNOWN text) NEXT_HOP WELL_KNOWN octets))
    ≡ length (canon (with_attribute r AS_PATH WELL_KNOWN text))
length-hop r text octets is e four =
    let path : Attribute = record { flags = kept_flags WELL_KNOWN; value = text } in
    let hop : Attribute = record { flags = kept_flags WELL_KNOWN; value = octets } in
    let next = with_attribute r AS_PATH WELL_KNOWN text in
    let s = IsThere-has_sound r NEXT_HOP e in
    let found : attribute_at next NEXT_HOP ≡ Some s.0 = at-with_value r AS_PATH path NEXT_HOP ∙ s.1.found in
    let old : size_if (attribute_at next NEXT_HOP) ≡ 7 =
    ap size_if found ∙ size_of-four s.0 (length-NEXT_HOP 4 s.0.flags s.0.value s.1.sound) in
    omega (
      arith,
      length-with_value next NEXT_HOP hop (IsStrictlySortedBy-with_value AS_PATH path r is.rising),
      old,
      size_of-four hop four,
    )

-- a route for an external peer, after its AS_PATH was set
pub record IsExternal (r next : Route) (local : Side) (octets : List ℕ) : Type 0 where
  pub fits : nat_le (length (canon (with_attribute next NEXT_HOP WELL_KNOWN octets))) MAX_CANONICAL ≡ true
  pub after :
      without_attribute (without_attribute (with_attribute next NEXT_HOP WELL_KNOWN octets) LOCAL_PREF) MULTI_EXIT_DISC
      ≡ to_external r local
  pub bound : length (canon (to_external r local)) ≤ length (canon next)

pub IsExternal-hop : (r next : Route) (local : Side) (octets : List ℕ) → IsRoute r → length (canon next) ≤ MAX_CANONICAL
    → has_sound r NEXT_HOP ≡ true
    → next ≡ with_attribute r AS_PATH WELL_KNOWN (path_octets 4 (prepend local.asn (path_of r)))
    → octets ≡ four_octets local.address → IsExternal r next local octets
IsExternal-hop r next local octets is short sound n o =
    let text = path_octets 4 (prepend local.asn (path_of r)) in
    let path = with_attribute r AS_PATH WELL_KNOWN text in
    let sent = with_attribute path NEXT_HOP WELL_KNOWN (four_octets local.address) in
    let same : with_attribute next NEXT_HOP WELL_KNOWN octets ≡ sent =
    ap (λ l. with_attribute l NEXT_HOP WELL_KNOWN octets) n
    ∙ ap (λ t. with_attribute path NEXT_HOP WELL_KNOWN t) o in
    let size : length (canon sent) ≡ length (canon next) =
    length-hop r text (four_octets local.address) is sound refl ∙ ap (λ l. length (canon l)) (sym n) in
    record {
      fits = le-leb (length (canon (with_attribute next NEXT_HOP WELL_KNOWN octets))) MAX_CANONICAL
          (omega (arith, ap (λ l. length (canon l)) same, size, short));
      after = ap (λ l. without_attribute (without_attribute l LOCAL_PREF) MULTI_EXIT_DISC) same;
      bound = omega (
        arith,
        length-without (without_attribute sent LOCAL_PREF) MULTI_EXIT_DISC,
        length-without sent LOCAL_PREF,
        size,
      );
    }

absent : (o : Option Attribute) (t : Option (ℕ × ℕ)) → t ≡ option_map (λ a. (a.flags, length a.value)) o
    → is_none t ≡ true → is_some o ≡ false
absent None t e none = refl
absent (Some a) t e none =
    let no : false ≡ true = sym (ap is_none e) ∙ none in
    absurd (cc no)

-- a route without LOCAL_PREF for an internal peer
pub record IsInternal (r : Route) (default : ℕ) (octets : List ℕ) : Type 0 where
  pub fits : nat_le (length (canon (with_attribute r LOCAL_PREF WELL_KNOWN octets))) MAX_CANONICAL ≡ true
  pub after : with_attribute r LOCAL_PREF WELL_KNOWN octets ≡ to_internal r default
  pub bound : length (canon (with_attribute r LOCAL_PREF WELL_KNOWN octets)) ≤ length (canon r) + 7

pub IsInternal-absent : (r : Route) (default : ℕ) (octets : List ℕ) (t : Option (ℕ × ℕ)) → length (canon r) ≤ 4096
    → t ≡ flags_and_length r LOCAL_PREF → is_none t ≡ true → octets ≡ four_octets default → IsInternal r default octets
IsInternal-absent r default octets t short e none o =
    let a : Attribute = record { flags = kept_flags WELL_KNOWN; value = octets } in
    let most : length (canon (with_attribute r LOCAL_PREF WELL_KNOWN octets)) ≤ length (canon r) + 7 =
    omega (arith, length-with_value-most r LOCAL_PREF a, size_of-four a (ap length o)) in
    record {
      fits = le-leb (length (canon (with_attribute r LOCAL_PREF WELL_KNOWN octets))) MAX_CANONICAL
          (omega (arith, most, short));
      after = ap (λ v. with_attribute r LOCAL_PREF WELL_KNOWN v) o
          ∙ ap (λ b. if b then r else with_attribute r LOCAL_PREF WELL_KNOWN (four_octets default))
          (sym (absent (attribute_at r LOCAL_PREF) t e none));
      bound = most;
    }

-- what marking leaves of the conditions
pub has_sound-marked : (r : Route) (code : ℕ) → is_known code ≡ true
    → has_sound (map marked_partial r) code ≡ has_sound r code
has_sound-marked r code known = ap (is_sound code) (at-marked r code known)

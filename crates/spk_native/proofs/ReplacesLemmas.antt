-- An attribute that is set in the place of another of its code, and the AS_PATH that stays in its place while the other
-- three of the four attributes are removed.
use Rattle.std.proofs.Common.{◌≡◌, refl, sym, ap, ◌∙◌, ℕ, ◌+◌, Bool, true, false, cond, length, Option, Some, None}
use Rattle.std.specs.Map.{keys_of}
use Rattle.std.specs.Ordering.{nat_cmp}
use Rattle.std.specs.BTreeMap.{is_at}
use Rattle.std.specs.List.Sorted.{IsStrictlySortedBy}
use Rattle.xb_words.specs.Table.{with_value}
use Rattle.bgp_attr.specs.Routes.{Attribute, Route, attribute_at, without_attribute, canon, kept_flags}
use Rattle.xbgp_view.proofs.EditsLemmas.{IsStrictlySortedBy-with_value}
use Rattle.spk_native.specs.Rebuilds.{bare, replaced, set_if, size_if}
use Rattle.spk_native.proofs.RebuildsLemmas.{at-bare, at-with_value, at-without, less, rising-bare, rising-without}
use Rattle.spk_native.proofs.RebuildsLemmas.{length-set_if}
use Rattle.spk_native.proofs.ReceiptLemmas.{by_code, same_route}

cond_twice : (b : Bool) (a : Attribute) (x : Option Attribute)
    → cond b (Some a) (cond b None x) ≡ cond b (Some a) x
cond_twice true a x = refl
cond_twice false a x = refl

-- a write over what was removed is a write
with_value-without : (r : Route) (code : ℕ) (a : Attribute) → IsStrictlySortedBy nat_cmp (keys_of r)
    → with_value nat_cmp (without_attribute r code) code a ≡ with_value nat_cmp r code a
with_value-without r code a rising =
    let bare = without_attribute r code in
    same_route (with_value nat_cmp bare code a) (with_value nat_cmp r code a)
    (IsStrictlySortedBy-with_value code a bare (rising-without r code rising))
    (IsStrictlySortedBy-with_value code a r rising)
    (λ q. at-with_value bare code a q
    ∙ ap (cond (is_at (nat_cmp code) q) (Some a)) (at-without r code q rising)
    ∙ cond_twice (is_at (nat_cmp code) q) a (attribute_at r q)
    ∙ sym (at-with_value r code a q))

-- what replaces an attribute could be set after its removal
replaced-set_if : (r : Route) (code : ℕ) (o : Option Attribute) → IsStrictlySortedBy nat_cmp (keys_of r)
    → replaced code o r ≡ set_if code o (without_attribute r code)
replaced-set_if r code None rising = refl
replaced-set_if r code (Some a) rising =
    sym (with_value-without r code (record { flags = kept_flags a.flags; value = a.value }) rising)

-- the route without three of the four codes, of which the AS_PATH is left
abbrev pub with_path_alone : Route → Route
with_path_alone r = without_attribute (without_attribute (without_attribute r 7) 17) 18

rising-with_path_alone : (r : Route) → IsStrictlySortedBy nat_cmp (keys_of r)
    → IsStrictlySortedBy nat_cmp (keys_of (with_path_alone r))
rising-with_path_alone r rising =
    let r7 = without_attribute r 7 in
    rising-without (without_attribute r7 17) 18 (rising-without r7 17 (rising-without r 7 rising))

-- what it has for a code
pub at-with_path_alone : (r : Route) (q : ℕ) → IsStrictlySortedBy nat_cmp (keys_of r)
    → attribute_at (with_path_alone r) q ≡ less 18 q (less 17 q (less 7 q (attribute_at r q)))
at-with_path_alone r q rising =
    let r7 = without_attribute r 7 in
    let s7 = rising-without r 7 rising in
    at-without (without_attribute r7 17) 18 q (rising-without r7 17 s7)
    ∙ ap (less 18 q) (at-without r7 17 q s7)
    ∙ ap (λ x. less 18 q (less 17 q x)) (at-without r 7 q rising)

-- without the AS_PATH too it is bare
without-with_path_alone : (r : Route) → IsStrictlySortedBy nat_cmp (keys_of r)
    → without_attribute (with_path_alone r) 2 ≡ bare r
without-with_path_alone r rising =
    let s = rising-with_path_alone r rising in
    same_route (without_attribute (with_path_alone r) 2) (bare r) (rising-without (with_path_alone r) 2 s)
    (rising-bare r rising)
    (λ q. at-without (with_path_alone r) 2 q s ∙ ap (less 2 q) (at-with_path_alone r q rising)
    ∙ by_code (λ k. less 2 k (less 18 k (less 17 k (less 7 k (attribute_at r k))))
    ≡ less 18 k (less 17 k (less 7 k (less 2 k (attribute_at r k)))))
    refl refl refl refl (λ k f2 f7 f17 f18. rw (f2, f7, f17, f18) refl) q
    ∙ sym (at-bare r q rising))

-- an AS_PATH in the place of the one that is left
pub replaced-with_path_alone : (r : Route) (o : Option Attribute) → IsStrictlySortedBy nat_cmp (keys_of r)
    → replaced 2 o (with_path_alone r) ≡ set_if 2 o (bare r)
replaced-with_path_alone r o rising =
    replaced-set_if (with_path_alone r) 2 o (rising-with_path_alone r rising)
    ∙ ap (set_if 2 o) (without-with_path_alone r rising)

-- it adds its octets to those of the bare route
pub length-path_alone : (r : Route) (o : Option Attribute) → IsStrictlySortedBy nat_cmp (keys_of r)
    → length (canon (set_if 2 o (bare r))) ≡ length (canon (bare r)) + size_if o
length-path_alone r o rising = length-set_if (bare r) 2 o (rising-bare r rising) (at-bare r 2 rising)

-- A section is canonical if its codes rise and each attribute has the flags of its canonical form.
use Rattle.std.proofs.Common.{◌≡◌, inl, inr, refl, sym, ap, subst, ◌∙◌, ℕ, ◌+◌, ◌<◌, ◌≤◌, true, false, List}
use Rattle.std.proofs.Common.{[], ◌∷◌, ◌++◌, length, arith, append_assoc, nat_lt}
use Rattle.std.specs.Prelude.{Result, Ok, Err}
use Rattle.std.specs.List.{AllByRecursion, concat}
use Rattle.std.proofs.lemmas.Bool.{cases_Bool}
use Rattle.std.proofs.lemmas.Nat.{be_bytes_2}
use Rattle.xb_words.specs.Cut.{cut, IsItem, walk, walk_from}
use Rattle.xb_words.specs.Octets.{AreOctets, two_at, two_octets}
use Rattle.xb_words.proofs.CutLemmas.{IsItem-cut, concat-cut}
use Rattle.xb_words.proofs.ListLemmas.{AllByRecursion-left, AllByRecursion-right}
use Rattle.bgp_attr.specs.declared.TheConstants.{MAX_CANONICAL}
use Rattle.bgp_attr.specs.declared.attrs.Overrun.{Overrun}
use Rattle.bgp_attr.specs.Attributes.{attribute_size, attr_code, attr_flags, attr_value, has_long_length, header_size}
use Rattle.bgp_attr.specs.Attributes.{value_size}
use Rattle.bgp_attr.specs.Routes.{Attribute, canon, canonical, kept_flags}
use Rattle.bgp_attr.specs.Walks.{FoundAttr, found_attr, overrun, attributes_from}
use Rattle.bgp_attr.proofs.AttributesLemmas.{IsSize-attribute_size}
use Rattle.xbgp_view.specs.Indexes.{entries_of}
use Rattle.xbgp_view.specs.Sections.{IsCanonical, form_flags}
use Rattle.xbgp_view.proofs.CanonicalLemmas.{attribute_size-some, has_long_length-kept, has_long_length-extended}
use Rattle.xbgp_view.proofs.EditsLemmas.{kept_flags-kept_flags}
use Rattle.xbgp_view.proofs.LengthsLemmas.{IsLocal-attribute_size, IsRoute-route_of, header_cases, slice_index-octets}
use Rattle.xbgp_view.proofs.RisingLemmas.{RiseFrom, route_of-rising}

-- each attribute has the flags of its canonical form, and none runs past the end
abbrev pub HaveForm : List (Result FoundAttr Overrun) → Type 0
HaveForm [] = Unit {0}
HaveForm (Ok a ∷ steps) = (a.flags ≡ form_flags a.flags a.value) × HaveForm steps
HaveForm (Err o ∷ steps) = ⊥

-- what a route has of an attribute, with its code
abbrev entry : List ℕ → ℕ × Attribute
entry x = (attr_code x, record { flags = kept_flags (attr_flags x); value = attr_value x })

-- an attribute whose length has two octets
long_form : (f c h l : ℕ) (v : List ℕ) → AreOctets (f ∷ c ∷ h ∷ l ∷ v) → IsItem attribute_size (f ∷ c ∷ h ∷ l ∷ v)
    → nat_lt 255 (length v) ≡ true → has_long_length f ≡ true → f ≡ kept_flags f + 16
    → canonical (c, record { flags = kept_flags f; value = v }) ≡ f ∷ c ∷ h ∷ l ∷ v
long_form f c h l v octets item long flag form =
    let x = f ∷ c ∷ h ∷ l ∷ v in
    let w = attribute_size-some x (length x) item in
    let four : header_size f ≡ 4 = rw flag refl in
    let read : value_size x ≡ two_at x 2 = rw flag refl in
    let number : length v ≡ two_at x 2 = omega (arith, w.1, four, read) in
    let pair : AreOctets (h ∷ l ∷ []) = (octets.1.1.0, (octets.1.1.1.0, tt)) in
    let two = be_bytes_2 (h ∷ l ∷ []) (length v) refl (λ i. slice_index-octets (h ∷ l ∷ []) i pair) number in
    let e : Attribute = record { flags = kept_flags f; value = v } in
    let is : canonical (c, e) ≡ (kept_flags f + 16) ∷ c ∷ two_octets (length v) ++ v = rw long refl in
    is
    ∙ ap (λ (t : List ℕ). (kept_flags f + 16) ∷ c ∷ t ++ v) two
    ∙ ap (λ (g : ℕ). g ∷ c ∷ h ∷ l ∷ v) (sym form)

-- an attribute whose length has one octet
short_form : (f c l : ℕ) (v : List ℕ) → IsItem attribute_size (f ∷ c ∷ l ∷ v)
    → nat_lt 255 (length v) ≡ false → has_long_length f ≡ false → f ≡ kept_flags f
    → canonical (c, record { flags = kept_flags f; value = v }) ≡ f ∷ c ∷ l ∷ v
short_form f c l v item short flag form =
    let x = f ∷ c ∷ l ∷ v in
    let w = attribute_size-some x (length x) item in
    let three : header_size f ≡ 3 = rw flag refl in
    let size : value_size x ≡ l = rw flag refl in
    let same : length v ≡ l = omega (arith, w.1, three, size) in
    let is : canonical (c, record { flags = kept_flags f; value = v }) ≡ kept_flags f ∷ c ∷ length v ∷ v =
    rw short refl in
    is
    ∙ ap (λ (n : ℕ). kept_flags f ∷ c ∷ n ∷ v) same
    ∙ ap (λ (g : ℕ). g ∷ c ∷ l ∷ v) (sym form)

-- an attribute with the flags of its canonical form has that form
canonical-entry : (x : List ℕ) → AreOctets x → IsItem attribute_size x
    → attr_flags x ≡ form_flags (attr_flags x) (attr_value x) → canonical (entry x) ≡ x
canonical-entry [] octets item form =
    absurd (omega (arith, (attribute_size-some [] 0 item).0, header_cases (has_long_length 0)))
canonical-entry (f ∷ []) octets item form =
    absurd (omega (arith, (attribute_size-some (f ∷ []) 1 item).0, header_cases (has_long_length f)))
canonical-entry (f ∷ c ∷ []) octets item form =
    absurd (omega (arith, (attribute_size-some (f ∷ c ∷ []) 2 item).0, header_cases (has_long_length f)))
canonical-entry (f ∷ c ∷ l ∷ v) octets item form =
    elim (cases_Bool (nat_lt 255 (length (attr_value (f ∷ c ∷ l ∷ v))))) [
      | inl long ↦
          let is : f ≡ kept_flags f + 16 = rw long at form in
          let flag = ap has_long_length is ∙ has_long_length-extended (kept_flags f) (kept_flags-kept_flags f) in
          long_entry f c l v octets item flag long is
      | inr short ↦
          let is : f ≡ kept_flags f = rw short at form in
          let flag = has_long_length-kept f (sym is) in
          rw flag (short_form f c l v item (rw flag at short) flag is)
    ]
  where
    long_entry : (f c h : ℕ) (v : List ℕ) → AreOctets (f ∷ c ∷ h ∷ v) → IsItem attribute_size (f ∷ c ∷ h ∷ v)
        → has_long_length f ≡ true → nat_lt 255 (length (attr_value (f ∷ c ∷ h ∷ v))) ≡ true → f ≡ kept_flags f + 16
        → canonical (entry (f ∷ c ∷ h ∷ v)) ≡ f ∷ c ∷ h ∷ v
    long_entry f c h [] octets item flag long is =
        let four : header_size f ≡ 4 = rw flag refl in
        absurd (omega (arith, (attribute_size-some (f ∷ c ∷ h ∷ []) 3 item).0, four))
    long_entry f c h (l ∷ v) octets item flag long is =
        rw flag (long_form f c h l v octets item (rw flag at long) flag is)

-- attributes that all have the flags of their canonical forms, and that nothing follows
canon-walk : (at : ℕ) (xs : List (List ℕ)) (rest : List ℕ) → AreOctets (concat xs)
    → AllByRecursion (IsItem attribute_size) xs → HaveForm (walk found_attr overrun at xs rest)
    → canon (entries_of (walk found_attr overrun at xs rest)) ≡ concat xs ++ rest
canon-walk at [] [] octets items form = refl
canon-walk at [] (b ∷ rest) octets items form = absurd form
canon-walk at (x ∷ xs) rest octets items form =
    let mine = AllByRecursion-left (λ b. b < 256) x (concat xs) octets in
    let later = AllByRecursion-right (λ b. b < 256) x (concat xs) octets in
    let steps = walk found_attr overrun (at + length x) xs rest in
    ap (λ t. t ++ canon (entries_of steps)) (canonical-entry x mine items.0 form.0)
    ∙ ap (λ t. x ++ t) (canon-walk (at + length x) xs rest later items.1 form.1)
    ∙ sym (append_assoc x (concat xs) rest)

-- a section whose attributes have the flags of their canonical forms has the octets of its attributes in order
canon-entries_of : (s : List ℕ) → AreOctets s → HaveForm (attributes_from 0 s)
    → canon (entries_of (attributes_from 0 s)) ≡ s
unfolding walk_from
canon-entries_of s octets form =
    let p = cut attribute_size s in
    let joined = concat-cut attribute_size s in
    let mine = AllByRecursion-left (λ b. b < 256) (concat p.items) p.rest (subst AreOctets (sym joined) octets) in
    let items = IsItem-cut attribute_size IsSize-attribute_size IsLocal-attribute_size s in
    canon-walk 0 p.items p.rest mine items form ∙ joined

-- if its codes rise too, it is canonical
pub IsCanonical-formed : (s : List ℕ) → AreOctets s → length s ≤ MAX_CANONICAL
    → RiseFrom 0 (entries_of (attributes_from 0 s)) → HaveForm (attributes_from 0 s) → IsCanonical s
IsCanonical-formed s octets short rise form = record {
  route = IsRoute-route_of s octets short;
  octets = ap canon (route_of-rising s rise) ∙ canon-entries_of s octets form;
}

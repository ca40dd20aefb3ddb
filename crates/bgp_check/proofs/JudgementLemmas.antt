-- Lemmas on the judgement: walks over attributes and prefixes make it step by step, and what its data is at most.
use Rattle.std.proofs.Common.{◌≡◌, refl, sym, ap, subst, ◌∙◌, ℕ, zero, suc, ◌+◌, ◌-◌, ◌<◌, ◌≤◌, Bool, true, false, not}
use Rattle.std.proofs.Common.{◌||◌, List, [], ◌∷◌, length, map, Option, Some, None, Result, Ok, Err, if◌then◌else◌}
use Rattle.std.proofs.Common.{option_map, is_none, arith}
use Rattle.std.specs.Prelude.{◌==◌, nat_lt, IfSome}
use Rattle.std.proofs.Math.Bool.{or-true, or-false}
use Rattle.std.proofs.Math.Dec.{eqb-suc-zero}
use Rattle.std.proofs.lemmas.Bool.{and_parts}
use Rattle.std.proofs.lemmas.Bool.Decides.{nat_tests}
use Rattle.std.proofs.lemmas.List.{length-append, length-drop}
use Rattle.std.proofs.lemmas.Option.{cond_some}
use Rattle.std.specs.List.{concat, list_any}
use Rattle.xb_words.specs.Cut.{cut, walk, walk_from}
use Rattle.xb_words.specs.Octets.{two_at}
use Rattle.xb_words.specs.Optional.{or_else}
use Rattle.xb_words.proofs.CutLemmas.{concat-cut}
use Rattle.xb_words.proofs.ListLemmas.{length-slice_range}
use Rattle.xb_wire.specs.declared.numbers.TheConstants.{MALFORMED_ATTRIBUTE_LIST}
use Rattle.xb_wire.specs.Messages.{Notification, Update, lengths_fit, update_of, update_parts}
use Rattle.xb_values.specs.Prefixes.{Prefix, prefix_at, prefix_size, are_prefixes}
use Rattle.bgp_attr.specs.declared.attrs.Overrun.{Overrun}
use Rattle.bgp_attr.specs.declared.rule.AttrFault.{AttrFault}
use Rattle.bgp_attr.specs.declared.rule.AttrFault.TheVariants.{Unrecognized, Flags, Length, Origin, NextHop, Path}
use Rattle.bgp_attr.specs.Attributes.{attribute_size, attributes, attr_code, attr_flags, attr_value, codes_of}
use Rattle.bgp_attr.specs.Rules.{attr_fault}
use Rattle.bgp_attr.specs.Walks.{FoundAttr, found_attr, overrun, attributes_from}
use Rattle.bgp_update.specs.Walks.{prefixes_from}
use Rattle.bgp_check.specs.Codes.{has_bit}
use Rattle.bgp_check.specs.Judgement.{attr_notice, attribute_check, first_check, has_code, is_malformed, judge_section}
use Rattle.bgp_check.specs.Judgement.{missing, missing_notice, refuse_if, repeats, update_error}

some_left : (b : ℕ) (rest : List ℕ) → (length (b ∷ rest) == 0) ≡ false
some_left b rest = eqb-suc-zero (length rest)

-- no step to come is an error
abbrev pub all_whole : List (Result Prefix (Unit {0})) → Bool
all_whole [] = true
all_whole (Err bad ∷ steps) = false
all_whole (Ok p ∷ steps) = all_whole steps

all_whole-walk : (at : ℕ) (items : List (List ℕ)) (rest : List ℕ) → all_whole (walk (λ i. prefix_at) (λ i. tt) at items rest) ≡ (length rest == 0)
all_whole-walk at [] [] = refl
all_whole-walk at [] (b ∷ rest) = sym (some_left b rest)
all_whole-walk at (x ∷ items) rest = all_whole-walk (at + length x) items rest

pub all_whole_prefixes : (octets : List ℕ) → all_whole (prefixes_from octets) ≡ are_prefixes octets
unfolding walk_from
all_whole_prefixes octets = all_whole-walk 0 (cut prefix_size octets).items (cut prefix_size octets).rest

-- the check of an attribute that a walk returned
abbrev pub found_check : ℕ → FoundAttr → Option Notification
found_check w a = option_map (attr_notice a.raw) (attr_fault w a.code a.flags a.value)

-- the first fault of the attributes to come
abbrev pub first_found : ℕ → List (Result FoundAttr Overrun) → Option Notification
first_found w [] = None
first_found w (Err o ∷ steps) = None
first_found w (Ok a ∷ steps) = or_else (found_check w a) (first_found w steps)

first_found-walk : (w at : ℕ) (items : List (List ℕ)) (rest : List ℕ) → first_found w (walk found_attr overrun at items rest) ≡ first_check (map (attribute_check w) items)
first_found-walk w at [] [] = refl
first_found-walk w at [] (b ∷ rest) = refl
first_found-walk w at (x ∷ items) rest = ap (or_else (attribute_check w x)) (first_found-walk w (at + length x) items rest)

pub first_found_section : (w : ℕ) (section : List ℕ) → first_found w (attributes_from 0 section) ≡ first_check (map (attribute_check w) (attributes section))
unfolding walk_from
first_found_section w section = first_found-walk w 0 (cut attribute_size section).items (cut attribute_size section).rest

-- the codes of the attributes to come, before those that came; None if one runs past the end or came before
abbrev pub gathered : List (Result FoundAttr Overrun) → List ℕ → Option (List ℕ)
gathered [] before = Some before
gathered (Err o ∷ steps) before = None
gathered (Ok a ∷ steps) before = if has_code before a.code then None else gathered steps (a.code ∷ before)

equal_either : (m n : ℕ) → (m == n) ≡ (n == m)
equal_either m n = grind (arith, nat_tests)

-- orders of `||`
first_back : (a b c d : Bool) → ((a || b) || (c || d)) ≡ ((a || c) || (b || d))
first_back true b c d = refl
first_back false true c d = sym (or-true c)
first_back false false c d = refl

into_middle : (a b c d : Bool) → ((a || b) || (c || d)) ≡ ((a || (c || b)) || d)
into_middle true b c d = refl
into_middle false b true d = or-true b
into_middle false b false d = refl

to_front : (a b c : Bool) → (a || (b || c)) ≡ ((b || a) || c)
to_front a true c = or-true a
to_front a false c = refl

-- a code is among those of before, or is the one that came last
came-last : (k : ℕ) (before codes : List ℕ) → list_any (has_code (k ∷ before)) codes ≡ (has_code codes k || list_any (has_code before) codes)
came-last k before [] = refl
came-last k before (c ∷ codes) =
    ap (λ b. ((k == c) || has_code before c) || b) (came-last k before codes)
    ∙ first_back (k == c) (has_code before c) (has_code codes k) (list_any (has_code before) codes)
    ∙ ap (λ b. (b || has_code codes k) || (has_code before c || list_any (has_code before) codes)) (equal_either k c)

none_came : (codes : List ℕ) → list_any (has_code []) codes ≡ false
none_came [] = refl
none_came (c ∷ codes) = none_came codes

gathered-walk : (at : ℕ) (items : List (List ℕ)) (rest before : List ℕ)
    → is_none (gathered (walk found_attr overrun at items rest) before) ≡ ((not (length rest == 0) || repeats (map attr_code items)) || list_any (has_code before) (map attr_code items))
gathered-walk at [] [] before = refl
gathered-walk at [] (b ∷ rest) before = ap (λ k. (not k || false) || false) (sym (some_left b rest))
gathered-walk at (x ∷ items) rest before =
    let k = attr_code x in
    let codes = map attr_code items in
    let left = not (length rest == 0) in
    elim (has_code before k) as (λ b. is_none (if b then None else gathered (walk found_attr overrun (at + length x) items rest) (k ∷ before))
    ≡ ((left || (has_code codes k || repeats codes)) || (b || list_any (has_code before) codes))) [
      | true ↦ sym (or-true (left || (has_code codes k || repeats codes)))
      | false ↦
          gathered-walk (at + length x) items rest (k ∷ before)
          ∙ ap (λ b. (left || repeats codes) || b) (came-last k before codes)
          ∙ into_middle left (repeats codes) (has_code codes k) (list_any (has_code before) codes)
    ]

gathered-has : (at : ℕ) (items : List (List ℕ)) (rest before after : List ℕ) → gathered (walk found_attr overrun at items rest) before ≡ Some after
    → (code : ℕ) → has_code after code ≡ (has_code (map attr_code items) code || has_code before code)
gathered-has at [] [] before after e code = let same : before ≡ after = cc in ap (λ l. has_code l code) (sym same)
gathered-has at [] (b ∷ rest) before after e code = cc
gathered-has at (x ∷ items) rest before after e code =
    let k = attr_code x in
    let codes = map attr_code items in
    elim (has_code before k) as (λ b. (if b then None else gathered (walk found_attr overrun (at + length x) items rest) (k ∷ before)) ≡ Some after → has_code after code ≡ (((k == code) || has_code codes code) || has_code before code)) [
      | true ↦ λ none. cc
      | false ↦ λ some. gathered-has (at + length x) items rest (k ∷ before) after some code ∙ to_front (has_code codes code) (k == code) (has_code before code)
    ] e

-- the walk over a section finds what is malformed, and else gathers its codes
pub gathered_fails : (section : List ℕ) → is_none (gathered (attributes_from 0 section) []) ≡ is_malformed section
unfolding walk_from
gathered_fails section =
    gathered-walk 0 (cut attribute_size section).items (cut attribute_size section).rest []
    ∙ ap (λ b. is_malformed section || b) (none_came (codes_of section))
    ∙ or-false (is_malformed section)

pub gathered_has : (section after : List ℕ) → gathered (attributes_from 0 section) [] ≡ Some after → (code : ℕ) → has_code after code ≡ has_code (codes_of section) code
unfolding walk_from
gathered_has section after e code =
    gathered-has 0 (cut attribute_size section).items (cut attribute_size section).rest [] after e code
    ∙ or-false (has_code (codes_of section) code)

-- the words hold the codes that came, and what is to come finishes the work
pub record GathersCodes (words : List ℕ) (steps all : List (Result FoundAttr Overrun)) : Type 0 where
  pub before : List ℕ
  pub same : (code : ℕ) → code < 256 → has_bit words code ≡ has_code before code
  pub finishes : gathered steps before ≡ gathered all []

pub gathers_first : (words : List ℕ) (all : List (Result FoundAttr Overrun)) → ((code : ℕ) → has_bit words code ≡ false) → GathersCodes words all all
gathers_first words all none = record { before = []; same = λ code small. none code; finishes = refl }

pub gathers_more : (words wider : List ℕ) (a : FoundAttr) (steps all : List (Result FoundAttr Overrun)) → GathersCodes words (Ok a ∷ steps) all → a.code < 256
    → has_bit words a.code ≡ false → ((other : ℕ) → other < 256 → has_bit wider other ≡ (a.code == other || has_bit words other)) → GathersCodes wider steps all
gathers_more words wider a steps all g small free more =
    record {
      before = a.code ∷ g.before;
      same = λ code fits. more code fits ∙ ap (λ b. a.code == code || b) (g.same code fits);
      finishes = ap (λ b. if b then None else gathered steps (a.code ∷ g.before)) (sym free ∙ g.same a.code small) ∙ g.finishes;
    }

pub gathered_twice : (section words : List ℕ) (a : FoundAttr) (steps : List (Result FoundAttr Overrun)) → GathersCodes words (Ok a ∷ steps) (attributes_from 0 section) → a.code < 256
    → has_bit words a.code ≡ true → true ≡ is_malformed section
gathered_twice section words a steps g small held =
    ap (λ b. is_none (if b then None else gathered steps (a.code ∷ g.before))) (sym held ∙ g.same a.code small) ∙ ap is_none g.finishes ∙ gathered_fails section

pub gathered_overrun : (section words : List ℕ) (o : Overrun) (steps : List (Result FoundAttr Overrun)) → GathersCodes words (Err o ∷ steps) (attributes_from 0 section) → true ≡ is_malformed section
gathered_overrun section words o steps g = ap is_none g.finishes ∙ gathered_fails section

pub gathered_all : (section words : List ℕ) → GathersCodes words [] (attributes_from 0 section)
    → (false ≡ is_malformed section) × ((code : ℕ) → code < 256 → has_bit words code ≡ has_code (codes_of section) code)
gathered_all section words g =
    (ap is_none g.finishes ∙ gathered_fails section, λ code small. g.same code small ∙ gathered_has section g.before (sym g.finishes) code)

-- the data of a notification has at most m octets
abbrev HasData : ℕ → Notification → Type 0
HasData m n = length n.extra ≤ m

HasData-attr_notice : (m : ℕ) (attribute : List ℕ) (fault : AttrFault) → length attribute ≤ m → HasData m (attr_notice attribute fault)
HasData-attr_notice m attribute Unrecognized h = h
HasData-attr_notice m attribute Flags h = h
HasData-attr_notice m attribute Length h = h
HasData-attr_notice m attribute Origin h = h
HasData-attr_notice m attribute NextHop h = h
HasData-attr_notice m attribute Path h = omega arith

IfSome-attr_notice : (m : ℕ) (attribute : List ℕ) (fault : Option AttrFault) → length attribute ≤ m → IfSome (option_map (attr_notice attribute) fault) (HasData m)
IfSome-attr_notice m attribute None h = tt
IfSome-attr_notice m attribute (Some fault) h = HasData-attr_notice m attribute fault h

IfSome-or_else : (m : ℕ) (a b : Option Notification) → IfSome a (HasData m) → IfSome b (HasData m) → IfSome (or_else a b) (HasData m)
IfSome-or_else m None b ha hb = hb
IfSome-or_else m (Some n) b ha hb = ha

IfSome-refuse_if : (m : ℕ) (refused : Bool) (n : Notification) → HasData m n → IfSome (refuse_if refused n) (HasData m)
IfSome-refuse_if m true n h = h
IfSome-refuse_if m false n h = tt

IfSome-attributes : (w m : ℕ) (items : List (List ℕ)) → length (concat items) ≤ m → IfSome (first_check (map (attribute_check w) items)) (HasData m)
IfSome-attributes w m [] h = tt
IfSome-attributes w m (x ∷ items) h =
    let here : length x ≤ m = omega (arith, h, length-append x (concat items)) in
    let later : length (concat items) ≤ m = omega (arith, h, length-append x (concat items)) in
    IfSome-or_else m (attribute_check w x) (first_check (map (attribute_check w) items))
    (IfSome-attr_notice m x (attr_fault w (attr_code x) (attr_flags x) (attr_value x)) here) (IfSome-attributes w m items later)

-- the data of an attribute's fault is within the section
first_check-data : (w m : ℕ) (section : List ℕ) → length section ≤ m → IfSome (first_check (map (attribute_check w) (attributes section))) (HasData m)
first_check-data w m section h =
    let p = cut attribute_size section in
    let whole = ap length (concat-cut attribute_size section) in
    IfSome-attributes w m p.items (omega (arith, h, whole, length-append (concat p.items) p.rest))

IfSome-missing : (m : ℕ) (announces : Bool) (code : Option ℕ) → (announces ≡ true → 1 ≤ m) → IfSome (if announces then option_map missing_notice code else None) (HasData m)
IfSome-missing m false code h = tt
IfSome-missing m true None h = tt
IfSome-missing m true (Some code) h = h refl

-- the data of a section's fault is within the section, or the one octet of a code if prefixes are announced
judge_section-data : (w m : ℕ) (section : List ℕ) (announces : Bool) → length section ≤ m → (announces ≡ true → 1 ≤ m) → IfSome (judge_section w section announces) (HasData m)
unfolding judge_section
judge_section-data w m section announces h some =
    let attrs = first_check (map (attribute_check w) (attributes section)) in
    let absent = if announces then option_map missing_notice (missing (codes_of section)) else None in
    IfSome-or_else m (refuse_if (is_malformed section) (update_error MALFORMED_ATTRIBUTE_LIST [])) (or_else attrs (or_else absent None))
    (IfSome-refuse_if m (is_malformed section) (update_error MALFORMED_ATTRIBUTE_LIST []) (omega arith))
    (IfSome-or_else m attrs (or_else absent None) (first_check-data w m section h)
    (IfSome-or_else m absent None (IfSome-missing m announces (missing (codes_of section)) some) tt))

along : (m : ℕ) (o : Option Notification) (n : Notification) → o ≡ Some n → IfSome o (HasData m) → length n.extra ≤ m
along m o n e h = let P : Option Notification → Type 0 = λ x. IfSome x (HasData m) in subst P e h

-- the data of an attribute's fault has at most the section's length
pub data_le-first_check : (w : ℕ) (section : List ℕ) (n : Notification) → first_check (map (attribute_check w) (attributes section)) ≡ Some n → length n.extra ≤ length section
data_le-first_check w section n e = along (length section) (first_check (map (attribute_check w) (attributes section))) n e (first_check-data w (length section) section (omega arith))

positive_from-not : (n : ℕ) → not (n == 0) ≡ true → 0 < n
positive_from-not zero e = cc
positive_from-not (suc n) e = omega arith

-- the parts of a body leave 4 octets for the length fields
parts_within : (body : List ℕ) (u : Update) → update_of body ≡ Some u → (length u.section + 4 ≤ length body) × (0 < length u.nlri → 5 ≤ length body)
parts_within body u e =
    let w = two_at body 0 in
    let a = two_at body (2 + w) in
    let len = length body in
    let p = cond_some (lengths_fit body) (update_parts body) u e in
    let test = (and_parts (not (nat_lt len (4 + w))) (not (nat_lt len (4 + w + a))) p.0).1 in
    let fits : 4 + w + a ≤ len = grind (arith, nat_tests) in
    let P : Update → Type 0 = λ v. (length v.section + 4 ≤ len) × (0 < length v.nlri → 5 ≤ len) in
    let section = length-slice_range body (4 + w) (4 + w + a) fits in
    let nlri = length-drop (4 + w + a) body in
    let here : P (update_parts body) = (omega (arith, section, fits), λ some. omega (arith, nlri, some)) in
    subst P p.1 here

-- the data of a fault in the section of an UPDATE has at most the body's length without its length fields
pub data_le-judge_section : (w : ℕ) (body : List ℕ) (u : Update) (n : Notification) → update_of body ≡ Some u
    → judge_section w u.section (not (length u.nlri == 0)) ≡ Some n → length n.extra ≤ length body - 4
data_le-judge_section w body u n is e =
    let within = parts_within body u is in
    let announces = not (length u.nlri == 0) in
    along (length body - 4) (judge_section w u.section announces) n e
    (judge_section-data w (length body - 4) u.section announces (omega (arith, within.0)) (λ yes. let more = within.1 (positive_from-not (length u.nlri) yes) in omega (arith, more)))

-- What a peer hears of messages that are sent one after another, and what the next message adds to it.
use Rattle.std.proofs.Common.{◌≡◌, refl, sym, ap, ◌∙◌, ℕ, ◌+◌, ◌-◌, ◌≤◌, Bool, true, false, List, [], ◌∷◌, ◌++◌, cond}
use Rattle.std.proofs.Common.{Option, Some, None, append_assoc, arith, fold, flat_map, inl, inr, length, subst, suc}
use Rattle.std.proofs.Common.{take, zero}
use Rattle.std.proofs.lemmas.Bool.{cases_Bool, ltb-false}
use Rattle.std.proofs.lemmas.List.{append-nil, length-append}
use Rattle.std.specs.Prelude.{◌==◌, Result, Ok, Err, filter, find, if◌then◌else◌, is_none, nat_lt, not}
use Rattle.std.specs.List.{All, AllByRecursion, concat}
use Rattle.std.specs.Map.{keys_of}
use Rattle.std.specs.Ordering.{match_ordering}
use Rattle.std.specs.declared.cmp.Ordering.{Ordering}
use Rattle.std.specs.declared.cmp.Ordering.TheVariants.{Less, Equal, Greater}
use Rattle.xb_words.specs.Cut.{Pieces, with_offsets}
use Rattle.xb_words.specs.Table.{set_of, value_at, with_key, with_keys, with_value, without, IsRising}
use Rattle.xb_words.proofs.CutLemmas.{cut-concat}
use Rattle.xb_words.proofs.TableLemmas.{AllByRecursion-with_value, AllByRecursion-without, IsRising-with_value}
use Rattle.xb_words.proofs.TableLemmas.{IsRising-without, value_at-some}
use Rattle.xb_domain.specs.declared.output.Packing.{Packing}
use Rattle.xb_domain.specs.declared.output.Packing.TheVariants.{Grouped, Sorted}
use Rattle.xb_values.specs.Prefixes.{IsPrefix, Prefix, Sections, are_prefixes, prefix_cmp, prefix_octets}
use Rattle.xb_values.proofs.PrefixLemmas.{prefix_total}
use Rattle.xb_wire.specs.declared.numbers.TheConstants.{EMPTY_UPDATE, MAX_MESSAGE, MAX_SECTION}
use Rattle.xb_wire.specs.Messages.{IsMessage, Update, lengths_fit, message_size, split}
use Rattle.xb_wire.specs.Messages.{update_body, update_message, update_parts}
use Rattle.xb_wire.proofs.MessageLemmas.{message_size_is_size, message_size_is_stable}
use Rattle.bgp_update.specs.Heard.{after_message, after_update, announced_in, heard, is_readable, is_refused}
use Rattle.bgp_write.specs.Pending.{Formed, announced, announcement, fitting, form, has_section, pending}
use Rattle.bgp_write.specs.Pending.{section_of, together, withdrawal, withdrawn_first}
use Rattle.bgp_write.specs.Written.{keepalive_message, wide_open_message}
use Rattle.bgp_write.proofs.MessageLemmas.{length-update_message, update_is_message}
use Rattle.bgp_write.proofs.ReadBackLemmas.{are_prefixes-flat_map, prefixes-flat_map, update_of-update_body}

-- ---- streams

-- octets that are whole messages, none of them refused, and the table that is heard of them
pub record Tells (bytes : List ℕ) (table : Sections) : Type 0 where
  pub messages : List (List ℕ)
  pub joined : bytes ≡ concat messages
  pub whole : AllByRecursion IsMessage messages
  pub readable : AllByRecursion (λ m. is_refused m ≡ false) messages
  pub heard : fold after_message [] messages ≡ table

none_refused : (at : ℕ) (ms : List (List ℕ)) → AllByRecursion (λ m. is_refused m ≡ false) ms
    → find (λ m. is_refused m.1) (with_offsets at ms) ≡ None
none_refused at [] all = refl
none_refused at (m ∷ ms) all =
    ap (λ (b : Bool). cond b (Some (at, m)) (find (λ x. is_refused x.1) (with_offsets (at + length m) ms))) all.0
    ∙ none_refused (at + length m) ms all.1

-- what is heard of messages and octets after the last of them
abbrev heard_of : Pieces → Result Sections ℕ
heard_of p =
    let found = find (λ m. is_refused m.1) (with_offsets 0 p.items) in
    let refusal : Option ℕ = elim found [
      | Some m ↦ Some m.0
      | None ↦ if length p.rest == 0 then None else Some (length (concat p.items))
    ] in
    elim refusal [ None ↦ Ok (fold after_message [] p.items) | Some at ↦ Err at ]

heard-split : (s : List ℕ) → heard s ≡ heard_of (split s)
unfolding heard
heard-split s = refl

heard_of-whole : (ms : List (List ℕ)) → AllByRecursion (λ m. is_refused m ≡ false) ms
    → heard_of (record { items = ms; rest = [] }) ≡ Ok (fold after_message [] ms)
heard_of-whole ms all =
    ap (λ (found : Option (ℕ × List ℕ)).
    let refusal : Option ℕ = elim found [ Some m ↦ Some m.0 | None ↦ None ] in
    let answer : Result Sections ℕ = elim refusal [ None ↦ Ok (fold after_message [] ms) | Some at ↦ Err at ] in answer)
    (none_refused 0 ms all)

-- the table is heard
pub heard-tells : (bytes : List ℕ) (table : Sections) → Tells bytes table → heard bytes ≡ Ok table
heard-tells bytes table t =
    let pieces : split bytes ≡ record { items = t.messages; rest = [] } =
    ap split (t.joined ∙ sym (append-nil (concat t.messages)))
    ∙ cut-concat message_size message_size_is_size message_size_is_stable t.messages [] t.whole refl in
    heard-split bytes ∙ ap heard_of pieces ∙ heard_of-whole t.messages t.readable ∙ ap Ok t.heard

-- no octets tell nothing
pub tells-nil : Tells [] []
tells-nil = record { messages = []; joined = refl; whole = tt; readable = tt; heard = refl }

concat-snoc : (xs : List (List ℕ)) (x : List ℕ) → concat (xs ++ x ∷ []) ≡ concat xs ++ x
concat-snoc [] x = append-nil x
concat-snoc (y ∷ ys) x = ap (λ (s : List ℕ). y ++ s) (concat-snoc ys x) ∙ sym (append_assoc y (concat ys) x)

all-snoc : {A : Type 0} (P : A → Type 0) (xs : List A) (x : A) → AllByRecursion P xs → P x
    → AllByRecursion P (xs ++ x ∷ [])
all-snoc P [] x all last = (last, tt)
all-snoc P (y ∷ ys) x all last = (all.0, all-snoc P ys x all.1 last)

fold-snoc : {A B : Type 0} (f : B → A → B) (b : B) (xs : List A) (x : A) → fold f b (xs ++ x ∷ []) ≡ f (fold f b xs) x
fold-snoc f b [] x = refl
fold-snoc f b (y ∷ ys) x = fold-snoc f (f b y) ys x

-- one more message
pub tells-message : (bytes m : List ℕ) (table after : Sections) → Tells bytes table → IsMessage m
    → is_refused m ≡ false → after_message table m ≡ after → Tells (bytes ++ m) after
tells-message bytes m table after t is readable changes = record {
  messages = t.messages ++ m ∷ [];
  joined = ap (λ (s : List ℕ). s ++ m) t.joined ∙ sym (concat-snoc t.messages m);
  whole = all-snoc IsMessage t.messages m t.whole is;
  readable = all-snoc (λ x. is_refused x ≡ false) t.messages m t.readable readable;
  heard =
      fold-snoc after_message [] t.messages m ∙ ap (λ (x : Sections). after_message x m) t.heard ∙ changes;
}

-- a KEEPALIVE changes nothing
pub tells-keepalive : (bytes : List ℕ) (table : Sections) → Tells bytes table → Tells (bytes ++ keepalive_message) table
tells-keepalive bytes table t = tells-message bytes keepalive_message table table t refl refl refl

-- nor does an OPEN
pub tells-open : (bytes : List ℕ) (table : Sections) (asn hold id : ℕ) → Tells bytes table
    → Tells (bytes ++ wide_open_message asn hold id) table
tells-open bytes table asn hold id t =
    tells-message bytes (wide_open_message asn hold id) table table t refl refl refl

-- ---- an UPDATE

some_is : {A : Type 0} (b : Bool) (x y : A) → (if b then Some x else None) ≡ Some y → (b ≡ true) × (x ≡ y)
some_is true x y e = (refl, cc e)
some_is false x y e = absurd (cc e)

-- the UPDATE of prefixes
abbrev update_with : List Prefix → List ℕ → List Prefix → Update
update_with gone section fresh =
    record { withdrawn = flat_map prefix_octets gone; section = section; nlri = flat_map prefix_octets fresh }

-- a table without prefixes, and a table with a section at prefixes
abbrev without_each : Sections → List Prefix → Sections
without_each table ps = fold (without prefix_cmp) table ps

abbrev with_each : Sections → List Prefix → List ℕ → Sections
with_each table ps section = fold (λ t p. with_value prefix_cmp t p section) table ps

-- what is written is read: withdrawn prefixes leave the table, and announced ones enter it
after_update-with : (table : Sections) (gone fresh : List Prefix) (section : List ℕ) → AllByRecursion IsPrefix gone
    → AllByRecursion IsPrefix fresh
    → after_update table (update_with gone section fresh) ≡ with_each (without_each table gone) fresh section
after_update-with table gone fresh section are_gone are_fresh =
    ap (λ (ps : List Prefix). announced_in (without_each table ps) (flat_map prefix_octets fresh) section)
    (prefixes-flat_map gone are_gone)
    ∙ ap (λ (ps : List Prefix). with_each (without_each table gone) ps section) (prefixes-flat_map fresh are_fresh)

readable-with : (gone fresh : List Prefix) (section : List ℕ) → AllByRecursion IsPrefix gone
    → AllByRecursion IsPrefix fresh → (body : List ℕ) → lengths_fit body ≡ true
    → update_parts body ≡ update_with gone section fresh → is_readable body ≡ true
readable-with gone fresh section are_gone are_fresh body fits parts =
    let first : are_prefixes (update_parts body).withdrawn ≡ true =
    ap (λ (u : Update). are_prefixes u.withdrawn) parts ∙ are_prefixes-flat_map gone are_gone in
    let second : are_prefixes (update_parts body).nlri ≡ true =
    ap (λ (u : Update). are_prefixes u.nlri) parts ∙ are_prefixes-flat_map fresh are_fresh in
    rw (fits, first, second) refl

-- one more UPDATE
tells-update : (bytes : List ℕ) (table : Sections) (gone fresh : List Prefix) (section : List ℕ)
    → AllByRecursion IsPrefix gone → AllByRecursion IsPrefix fresh
    → length (flat_map prefix_octets gone) + length section + length (flat_map prefix_octets fresh) ≤ 4073
    → Tells bytes table
    → Tells (bytes ++ update_message (update_with gone section fresh))
    (with_each (without_each table gone) fresh section)
tells-update bytes table gone fresh section are_gone are_fresh short t =
    let u = update_with gone section fresh in
    let body = update_body u in
    let read = update_of-update_body u (omega (arith, short)) (omega (arith, short)) in
    let parts = some_is (lengths_fit body) (update_parts body) u read in
    let readable = readable-with gone fresh section are_gone are_fresh body parts.0 parts.1 in
    tells-message bytes (update_message u) table (with_each (without_each table gone) fresh section) t
    (update_is_message u (omega (arith, short, length-update_message u)))
    (ap not readable)
    (ap (after_update table) parts.1 ∙ after_update-with table gone fresh section are_gone are_fresh)

-- ---- the next message

-- prefixes of a list that pass a test
pub all-filter : {A : Type 0} (P : A → Type 0) (test : A → Bool) (xs : List A) → AllByRecursion P xs
    → AllByRecursion P (filter test xs)
all-filter P test [] all = tt
all-filter P test (x ∷ xs) all =
    elim (cases_Bool (test x)) [
      | inl passes ↦ rw passes (all.0, all-filter P test xs all.1)
      | inr fails ↦ rw fails (all-filter P test xs all.1)
    ]

-- what holds of each element by its place holds of each along the list
pub AllByRecursion-All : {A : Type 0} (P : A → Type 0) (xs : List A) → All P xs → AllByRecursion P xs
AllByRecursion-All P [] all = tt
AllByRecursion-All P (x ∷ xs) all = (
  all 0 x (omega arith),
  AllByRecursion-All P xs (λ k d within. all (suc k) d (omega (arith, within))),
)

pub all-append : {A : Type 0} (P : A → Type 0) (xs ys : List A) → AllByRecursion P xs → AllByRecursion P ys
    → AllByRecursion P (xs ++ ys)
all-append P [] ys first second = second
all-append P (x ∷ xs) ys first second = (first.0, all-append P xs ys first.1 second)

all-take : {A : Type 0} (P : A → Type 0) (n : ℕ) (xs : List A) → AllByRecursion P xs → AllByRecursion P (take n xs)
all-take P zero xs all = tt
all-take P (suc n) [] all = tt
all-take P (suc n) (x ∷ xs) all = (all.0, all-take P n xs all.1)

-- the keys of entries whose keys are prefixes
pub all-keys : {A : Type 0} (P : Prefix → Type 0) (es : List (Prefix × A)) → AllByRecursion (λ e. P e.0) es
    → AllByRecursion P (keys_of es)
all-keys P [] all = tt
all-keys P (e ∷ es) all = (all.0, all-keys P es all.1)

by_order : (P : Prefix → Type 0) (o : Ordering) (x y z : List Prefix) → AllByRecursion P x → AllByRecursion P y
    → AllByRecursion P z → AllByRecursion P (match_ordering o x y z)
by_order P Less x y z a b c = a
by_order P Equal x y z a b c = b
by_order P Greater x y z a b c = c

all-with_key : (P : Prefix → Type 0) (set : List Prefix) (p : Prefix) → AllByRecursion P set → P p
    → AllByRecursion P (with_key prefix_cmp set p)
all-with_key P [] p all new = (new, tt)
all-with_key P (q ∷ set) p all new =
    by_order P (prefix_cmp p q) (p ∷ q ∷ set) (q ∷ set) (q ∷ with_key prefix_cmp set p) (new, all) all
    (all.0, all-with_key P set p all.1 new)

all-with_keys : (P : Prefix → Type 0) (set ps : List Prefix) → AllByRecursion P set → AllByRecursion P ps
    → AllByRecursion P (with_keys prefix_cmp set ps)
all-with_keys P set [] all new = all
all-with_keys P set (p ∷ ps) all new =
    all-with_keys P (with_key prefix_cmp set p) ps (all-with_key P set p all new.0) new.1

-- a set has the prefixes of a list
pub all-set_of : (P : Prefix → Type 0) (ps : List Prefix) → AllByRecursion P ps
    → AllByRecursion P (set_of prefix_cmp ps)
all-set_of P ps all = all-with_keys P [] ps tt all

-- a section that has room for any prefix, at a prefix
abbrev pub IsShort : Prefix × List ℕ → Type 0
IsShort e = IsPrefix e.0 × (length e.1 ≤ MAX_SECTION)

-- what a peer is advertised: short sections by rising prefix
pub record AreAdvertised (adv : Sections) : Type 0 where
  pub short : AllByRecursion IsShort adv
  pub rising : IsRising prefix_cmp adv

-- what a peer was told: sections by rising prefix
pub record AreTold (told : Sections) : Type 0 where
  pub prefixes : AllByRecursion (λ e. IsPrefix e.0) told
  pub rising : IsRising prefix_cmp told

-- what is known of entries holds of each
pub all-weaken : {A : Type 0} (P Q : A → Type 0) → ((x : A) → P x → Q x) → (xs : List A) → AllByRecursion P xs
    → AllByRecursion Q xs
all-weaken P Q weaker [] all = tt
all-weaken P Q weaker (x ∷ xs) all = (weaker x all.0, all-weaken P Q weaker xs all.1)

pending_are_prefixes : (adv told : Sections) → AreAdvertised adv → AreTold told
    → AllByRecursion IsPrefix (pending adv told)
unfolding pending
pending_are_prefixes adv told a t =
    let keys = all-append IsPrefix (keys_of adv) (keys_of told)
    (all-keys IsPrefix adv (all-weaken IsShort (λ e. IsPrefix e.0) (λ e s. s.0) adv a.short))
    (all-keys IsPrefix told t.prefixes) in
    all-filter IsPrefix _ _ (all-set_of IsPrefix (keys_of adv ++ keys_of told) keys)

-- prefixes that fit, with the room that they take
record Fits (room : ℕ) (ps : List Prefix) : Type 0 where
  pub are : AllByRecursion IsPrefix ps
  pub short : length (flat_map prefix_octets ps) ≤ room

fitting_fits : (room : ℕ) (ps : List Prefix) → AllByRecursion IsPrefix ps → Fits room (fitting room ps)
fitting_fits room [] all = record { are = tt; short = omega arith }
fitting_fits room (p ∷ ps) all =
    let size = length (prefix_octets p) in
    elim (cases_Bool (nat_lt room size)) [
      | inl over ↦ rw over (record { are = tt; short = omega arith })
      | inr within ↦
          let rest = fitting_fits (room - size) ps all.1 in
          let here : size ≤ room = ltb-false room size within in
          let long = length-append (prefix_octets p) (flat_map prefix_octets (fitting (room - size) ps)) in
          rw within (record { are = (all.0, rest.are); short = omega (arith, here, long, rest.short) })
    ]

-- prefixes that leave a table, or enter it
told-without : (told : Sections) (ps : List Prefix) → AreTold told → AreTold (without_each told ps)
told-without told [] t = t
told-without told (p ∷ ps) t =
    told-without (without prefix_cmp told p) ps
    (record {
      prefixes = AllByRecursion-without prefix_cmp (λ e. IsPrefix e.0) told p t.prefixes;
      rising = IsRising-without prefix_cmp prefix_total told p t.rising;
    })

told-with : (told : Sections) (ps : List Prefix) (section : List ℕ) → AllByRecursion IsPrefix ps → AreTold told
    → AreTold (with_each told ps section)
told-with told [] section are t = t
told-with told (p ∷ ps) section are t =
    told-with (with_value prefix_cmp told p section) ps section are.1
    (record {
      prefixes =
          AllByRecursion-with_value prefix_cmp (λ e. IsPrefix e.0) told p section are.0 (λ e same is. is) t.prefixes;
      rising = IsRising-with_value prefix_cmp prefix_total told p section t.rising;
    })

-- a message that was formed, after octets that tell what was told before
pub record IsTelling (told : Sections) (f : Formed) : Type 0 where
  pub told_is : AreTold f.told
  pub tells : (bytes : List ℕ) → Tells bytes told → Tells (bytes ++ f.message) f.told

withdrawal_tells : (told : Sections) (gone : List Prefix) → AllByRecursion IsPrefix gone → AreTold told
    → IsTelling told (withdrawal told gone)
withdrawal_tells told gone are t =
    let fits = fitting_fits (MAX_MESSAGE - EMPTY_UPDATE) gone are in
    let ps = fitting (MAX_MESSAGE - EMPTY_UPDATE) gone in
    record {
      told_is = told-without told ps t;
      tells = λ bytes b. tells-update bytes told ps [] [] fits.are tt (omega (arith, fits.short)) b;
    }

announcement_tells : (told : Sections) (section : List ℕ) (fresh : List Prefix) → length section ≤ MAX_SECTION
    → AllByRecursion IsPrefix fresh → AreTold told → IsTelling told (announcement told section fresh)
announcement_tells told section fresh short are t =
    let fits = fitting_fits (MAX_MESSAGE - EMPTY_UPDATE - length section) fresh are in
    let ps = fitting (MAX_MESSAGE - EMPTY_UPDATE - length section) fresh in
    record {
      told_is = told-with told ps section fits.are t;
      tells = λ bytes b. tells-update bytes told [] ps section tt fits.are (omega (arith, fits.short, short)) b;
    }

together_are : (rule : Packing) (adv : Sections) (s : List ℕ) (ps : List Prefix) → AllByRecursion IsPrefix ps
    → AllByRecursion IsPrefix (together rule adv s ps)
together_are Grouped adv s ps are = all-filter IsPrefix (has_section adv s) ps are
together_are Sorted adv s ps are = all-take IsPrefix _ ps are

section_of_short : (adv : Sections) (p : Prefix) → AreAdvertised adv → length (section_of adv p) ≤ MAX_SECTION
section_of_short adv p a =
    elim (value_at prefix_cmp adv p) as (λ o.
    value_at prefix_cmp adv p ≡ o
    → let s : List ℕ = elim o [ None ↦ [] | Some x ↦ x ] in length s ≤ MAX_SECTION) [
      | None ↦ λ e. omega arith
      | Some s ↦ λ e. (value_at-some prefix_cmp IsShort adv p s a.short e).2.1
    ] refl

announced_tells : (rule : Packing) (adv told : Sections) (ps : List Prefix) (f : Formed)
    → AllByRecursion IsPrefix ps → AreAdvertised adv → AreTold told → announced rule adv told ps ≡ Some f
    → IsTelling told f
announced_tells rule adv told [] f are a t is = absurd (cc is)
announced_tells rule adv told (x ∷ ps) f are a t is =
    let s = section_of adv x in
    let same : announcement told s (together rule adv s (x ∷ ps)) ≡ f = cc is in
    subst (IsTelling told) same
    (announcement_tells told s (together rule adv s (x ∷ ps)) (section_of_short adv x a)
    (together_are rule adv s (x ∷ ps) are) t)

withdrawn_first_tells : (rule : Packing) (adv told : Sections) (ps gone : List Prefix) (f : Formed)
    → AllByRecursion IsPrefix ps → AllByRecursion IsPrefix gone → AreAdvertised adv → AreTold told
    → withdrawn_first rule adv told ps gone ≡ Some f → IsTelling told f
withdrawn_first_tells rule adv told ps [] f are are_gone a t is = announced_tells rule adv told ps f are a t is
withdrawn_first_tells rule adv told ps (x ∷ gone) f are are_gone a t is =
    let same : withdrawal told (x ∷ gone) ≡ f = cc is in
    subst (IsTelling told) same (withdrawal_tells told (x ∷ gone) are_gone t)

-- the next message tells what was told and is told now
pub form_tells : (rule : Packing) (adv told : Sections) (f : Formed) → AreAdvertised adv → AreTold told
    → form rule adv told ≡ Some f → IsTelling told f
unfolding form
form_tells rule adv told f a t is =
    let are = pending_are_prefixes adv told a t in
    let test : Prefix → Bool = λ p. is_none (value_at prefix_cmp adv p) in
    withdrawn_first_tells rule adv told (pending adv told) (filter test (pending adv told)) f are
    (all-filter IsPrefix test (pending adv told) are) a t is

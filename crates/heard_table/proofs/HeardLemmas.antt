-- The steps make the table that a stream announces.
use Rattle.std.proofs.Common.{◌≡◌, ℕ, ◌+◌, Bool, true, false, cond, not, ◌&&◌, List, [], ◌∷◌, ◌++◌, length, map, fold}
use Rattle.std.proofs.Common.{find, Option, Some, None, Result, Ok, Err, if◌then◌else◌, refl, sym, ◌∙◌, ap, arith}
use Rattle.std.proofs.Common.{length-append}
use Rattle.std.specs.Prelude.{◌==◌}
use Rattle.std.specs.List.{concat}
use Rattle.std.specs.Option.{option_and_then, option_map}
use Rattle.std.proofs.Math.Dec.{eqb-suc-zero}
use Rattle.xb_words.specs.Cut.{cut, walk, walk_from, with_offsets}
use Rattle.xb_values.specs.Prefixes.{Sections, prefix_at, prefix_size, prefixes, are_prefixes}
use Rattle.xb_wire.specs.Messages.{Update, update_parts, lengths_fit, message_kind, message_body, split}
use Rattle.xb_wire.specs.declared.numbers.TheConstants.{UPDATE}
use Rattle.bgp_update.specs.Heard.{heard, after_message, after_update, withdrawn_from, is_readable}
use Rattle.bgp_update.specs.Heard.{is_refused}
use Rattle.bgp_update.specs.Walks.{found_message, messages_from, prefixes_from}
use Rattle.heard_table.specs.Steps.{change, change_each, parts_step, update_step, message_step, after_messages}
use Rattle.heard_table.specs.Steps.{or_refused}

-- the table after octets that are whole
abbrev if_whole : {A : Type 0} → Bool → A → Option A
if_whole b x = if b then Some x else None

some_left : (b : ℕ) (rest : List ℕ) → (length (b ∷ rest) == 0) ≡ false
some_left b rest = eqb-suc-zero (length rest)

change_each-walk : (at : ℕ) (items : List (List ℕ)) (rest : List ℕ) (becomes : Option (List ℕ)) (table : Sections)
    → change_each (walk (λ i. prefix_at) (λ i. tt) at items rest) becomes table
    ≡ if_whole (length rest == 0) (fold (change becomes) table (map prefix_at items))
change_each-walk at [] [] becomes table = refl
change_each-walk at [] (b ∷ rest) becomes table = ap (λ k. if_whole k table) (sym (some_left b rest))
change_each-walk at (x ∷ items) rest becomes table =
    change_each-walk (at + length x) items rest becomes (change becomes table (prefix_at x))

change_each-prefixes_from : (octets : List ℕ) (becomes : Option (List ℕ)) (table : Sections)
    → change_each (prefixes_from octets) becomes table
    ≡ if_whole (are_prefixes octets) (fold (change becomes) table (prefixes octets))
unfolding walk_from
change_each-prefixes_from octets becomes table =
    change_each-walk 0 (cut prefix_size octets).items (cut prefix_size octets).rest becomes table

parts_step-if_whole : (u : Update) (table : Sections)
    → parts_step u table ≡ if_whole (are_prefixes u.withdrawn && are_prefixes u.nlri) (after_update table u)
parts_step-if_whole u table =
    ap (option_and_then (change_each (prefixes_from u.nlri) (Some u.section)))
    (change_each-prefixes_from u.withdrawn None table)
    ∙ elim (are_prefixes u.withdrawn) as (λ w. option_and_then (change_each (prefixes_from u.nlri) (Some u.section))
    (if_whole w (withdrawn_from table u.withdrawn)) ≡ if_whole (w && are_prefixes u.nlri) (after_update table u)) [
      | true ↦ change_each-prefixes_from u.nlri (Some u.section) (withdrawn_from table u.withdrawn)
      | false ↦ refl
    ]

update_step-if_whole : (body : List ℕ) (table : Sections)
    → update_step body table ≡ if_whole (is_readable body) (after_update table (update_parts body))
unfolding update_step
update_step-if_whole body table =
    elim (lengths_fit body) as (λ b.
    option_and_then (λ u. parts_step u table) (if b then Some (update_parts body) else None)
    ≡ if_whole (b && are_prefixes (update_parts body).withdrawn && are_prefixes (update_parts body).nlri)
    (after_update table (update_parts body))) [
      | true ↦ parts_step-if_whole (update_parts body) table
      | false ↦ refl
    ]

message_step-if_whole : (at : ℕ) (m : List ℕ) (table : Sections)
    → message_step (found_message at m) table ≡ if_whole (not (is_refused m)) (after_message table m)
message_step-if_whole at m table =
    elim (message_kind m == UPDATE) as (λ k. (if k then update_step (message_body m) table else Some table)
    ≡ if_whole (not (k && not (is_readable (message_body m))))
    (if k then after_update table (update_parts (message_body m)) else table)) [
      | true ↦ update_step-if_whole (message_body m) table
          ∙ ap (λ b. if_whole b (after_update table (update_parts (message_body m))))
          (twice (is_readable (message_body m)))
      | false ↦ refl
    ]
  where
    twice : (b : Bool) → b ≡ not (not b)
    twice true = refl
    twice false = refl

-- what is refused first among the messages, or else the rest, which begins at `end`
abbrev refused_in : ℕ → ℕ → List (List ℕ) → List ℕ → Sections → Result Sections ℕ
refused_in at end items rest table =
    elim (find (λ m. is_refused m.1) (with_offsets at items)) [
      | Some m ↦ Err m.0
      | None ↦ if length rest == 0 then Ok (fold after_message table items) else Err end
    ]

after_messages-walk : (at : ℕ) (items : List (List ℕ)) (rest : List ℕ) (table : Sections)
    → after_messages (walk found_message (λ i. i) at items rest) table
    ≡ refused_in at (at + length (concat items)) items rest table
after_messages-walk at [] [] table = refl
after_messages-walk at [] (b ∷ rest) table =
    let here : at ≡ at + 0 = omega arith in
    ap Err here ∙ ap (λ k. if k then Ok table else Err (at + 0)) (sym (some_left b rest))
after_messages-walk at (m ∷ items) rest table =
    let end : at + length m + length (concat items) ≡ at + length (m ++ concat items) =
    omega (arith, length-append m (concat items)) in
    let others = walk found_message (λ i. i) (at + length m) items rest in
    ap (λ o. or_refused at (option_map (after_messages others) o)) (message_step-if_whole at m table)
    ∙ elim (is_refused m) as (λ b.
    or_refused at (option_map (after_messages others) (if_whole (not b) (after_message table m)))
    ≡ elim (cond b (Some (at, m)) (find (λ x. is_refused x.1) (with_offsets (at + length m) items))) [
      | Some x ↦ Err x.0
      | None ↦ if length rest == 0 then Ok (fold after_message (after_message table m) items)
          else Err (at + length (m ++ concat items))
    ]) [
      | true ↦ refl
      | false ↦ after_messages-walk (at + length m) items rest (after_message table m)
          ∙ ap (λ e. refused_in (at + length m) e items rest (after_message table m)) end
    ]

-- all steps together are the table of the stream, or the offset at which it is refused
pub heard_by_steps : (s : List ℕ) → after_messages (messages_from 0 s) [] ≡ heard s
unfolding walk_from heard
heard_by_steps s =
    after_messages-walk 0 (split s).items (split s).rest []
    ∙ by_refusal (find (λ m. is_refused m.1) (with_offsets 0 (split s).items)) (length (split s).rest == 0)
    (fold after_message [] (split s).items) (length (concat (split s).items))
  where
    by_refusal : (o : Option (ℕ × List ℕ)) (b : Bool) (table : Sections) (end : ℕ)
        → elim o as (λ x. Result Sections ℕ) [ Some m ↦ Err m.0 | None ↦ if b then Ok table else Err (0 + end) ]
        ≡ elim (elim o as (λ x. Option ℕ) [ Some m ↦ Some m.0 | None ↦ if b then None else Some end ])
        as (λ x. Result Sections ℕ) [ None ↦ Ok table | Some at ↦ Err at ]
    by_refusal (Some m) b table end = refl
    by_refusal None true table end = refl
    by_refusal None false table end = let e : 0 + end ≡ end = omega arith in ap Err e

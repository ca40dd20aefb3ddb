-- The verdicts that are still to come in a walk over messages, and the offset at which the walk is refused.
use Rattle.std.proofs.Common.{◌≡◌, ℕ, ◌+◌, List, [], ◌∷◌, ◌++◌, length, map, flat_map, Option, Some, None, Result, Ok}
use Rattle.std.proofs.Common.{Err, if◌then◌else◌, refl, sym, ◌∙◌, ap, arith, length-append}
use Rattle.std.specs.Prelude.{◌==◌}
use Rattle.std.specs.List.{concat}
use Rattle.std.proofs.Math.Dec.{eqb-suc-zero}
use Rattle.xb_words.specs.Cut.{walk, walk_from, with_offsets}
use Rattle.xb_wire.specs.Messages.{split}
use Rattle.bgp_update.specs.Walks.{FoundMessage, found_message, messages_from}
use Rattle.xbgp_top.specs.declared.status.Status.TheVariants.{Done, BadStream}
use Rattle.spk_model.specs.Reports.{end_line}
use Rattle.xbgp_top.specs.Answers.{Outcome, answered, ended, judge_line, judge_lines, judge_outcome}
use Rattle.xbgp_top.specs.Answers.{rest_offset}

-- the offset at which the walk is refused, if it is
abbrev pub rest_of : List (Result FoundMessage ℕ) → Option ℕ
rest_of [] = None
rest_of (Err at ∷ ms) = Some at
rest_of (Ok m ∷ ms) = rest_of ms

abbrev ends_at : List ℕ → ℕ → Option ℕ
ends_at rest end = if length rest == 0 then None else Some end

rest_of_walk : (at : ℕ) (items : List (List ℕ)) (rest : List ℕ)
    → rest_of (walk found_message (λ i. i) at items rest) ≡ ends_at rest (at + length (concat items))
rest_of_walk at [] [] = refl
rest_of_walk at [] (b ∷ rest) =
    let here : at ≡ at + 0 = omega arith in
    ap Some here ∙ ap (λ k. if k then None else Some (at + 0)) (sym (eqb-suc-zero (length rest)))
rest_of_walk at (m ∷ items) rest =
    let end : at + length m + length (concat items) ≡ at + length (m ++ concat items) = omega
    (arith, length-append m (concat items)) in
    rest_of_walk (at + length m) items rest ∙ ap (ends_at rest) end

pub first_rest : (s : List ℕ) → rest_of (messages_from 0 s) ≡ rest_offset s
unfolding walk_from
first_rest s =
    let from : 0 + length (concat (split s).items) ≡ length (concat (split s).items) = omega arith in
    rest_of_walk 0 (split s).items (split s).rest ∙ ap (ends_at (split s).rest) from

-- the lines of the messages that are still to come
abbrev pub lines_of : ℕ → List (Result FoundMessage ℕ) → List ℕ
lines_of w [] = []
lines_of w (Err at ∷ ms) = []
lines_of w (Ok m ∷ ms) = judge_line w m ++ lines_of w ms

lines_of_walk : (w at : ℕ) (items : List (List ℕ)) (rest : List ℕ)
    → lines_of w (walk found_message (λ i. i) at items rest) ≡ flat_map (judge_line w)
    (map (λ m. found_message m.0 m.1) (with_offsets at items))
lines_of_walk w at [] [] = refl
lines_of_walk w at [] (b ∷ rest) = refl
lines_of_walk w at (m ∷ items) rest = ap (λ l. judge_line w (found_message at m) ++ l)
    (lines_of_walk w (at + length m) items rest)

-- at first all lines are still to come
pub all_lines : (w : ℕ) (s : List ℕ) → lines_of w (messages_from 0 s) ≡ judge_lines w s
unfolding walk_from
all_lines w s = lines_of_walk w 0 (split s).items (split s).rest

-- a stream of whole messages
pub judge_outcome-none : (w : ℕ) (octets : List ℕ) → rest_offset octets ≡ None
    → ended (judge_outcome w octets) ≡ answered Done (judge_lines w octets ++ end_line)
judge_outcome-none w octets e =
    let by : Option ℕ → Outcome (List ℕ) = λ o. elim o as (λ x. Outcome (List ℕ))
    [ None ↦ Ok (judge_lines w octets ++ end_line) | Some at ↦ Err (BadStream at) ] in
    ap (λ (o : Option ℕ). ended (by o)) e

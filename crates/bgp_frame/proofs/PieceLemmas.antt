-- Messages that are removed one by one are those of the split, however the stream came.
use Rattle.std.proofs.Common.{◌≡◌, sym, ap, ◌∙◌, ℕ, zero, suc, List, [], ◌∷◌, ◌++◌, length, take, drop, Some, None}
use Rattle.std.specs.Prelude.{fold}
use Rattle.std.specs.List.{concat}
use Rattle.std.proofs.lemmas.List.{append_assoc, append-nil}
use Rattle.xb_words.specs.Cut.{Pieces, after_item, cut, cut_turns}
use Rattle.xb_words.proofs.CutLemmas.{cut_by, cut-append, cut-some, cut-none}
use Rattle.xb_wire.specs.Messages.{message_size, front_fault, split, stream_fault}
use Rattle.xb_wire.proofs.MessageLemmas.{message_size_is_size, message_size_is_stable}
use Rattle.bgp_frame.specs.Pieces.{Taken, drained_in, drained, fed_piece, fed}
use Rattle.xb_wire.specs.Fronts.{IsNext}
use Rattle.bgp_frame.specs.Fronts.{IsFirst}
use Rattle.xb_wire.specs.declared.front.Next.{Next}
use Rattle.xb_wire.specs.declared.front.Next.TheVariants.{Whole, More, Fault}

abbrev taken : List (List ℕ) → List ℕ → Taken
taken messages waits = record { messages = messages; waits = waits }

abbrev pieces : List ℕ → Pieces
pieces s = record { items = []; rest = s }

-- messages before those of some pieces, and their rest
abbrev before : List (List ℕ) → Pieces → Taken
before messages p = taken (messages ++ p.items) p.rest

drained_in-cut : (turns : ℕ) (ms : List (List ℕ)) (s : List ℕ) → drained_in turns (taken ms s) ≡ before ms (cut_turns message_size turns s)
drained_in-cut zero ms s = ap (λ m. taken m s) (sym (append-nil ms))
drained_in-cut (suc turns) ms s =
    elim (message_size s) as (λ o. (elim o [ None ↦ taken ms s | Some len ↦ drained_in turns (taken (ms ++ take len s ∷ []) (drop len s)) ]) ≡ before ms (cut_by message_size s turns o)) [
      | None ↦ ap (λ m. taken m s) (sym (append-nil ms))
      | Some len ↦
          let p = cut_turns message_size turns (drop len s) in
          drained_in-cut turns (ms ++ take len s ∷ []) (drop len s) ∙ ap (λ m. taken m p.rest) (append_assoc ms (take len s ∷ []) p.items)
    ]

drained-split : (ms : List (List ℕ)) (s : List ℕ) → drained (taken ms s) ≡ before ms (split s)
unfolding drained cut
drained-split ms s = drained_in-cut (length s) ms s

fed_piece-split : (s p : List ℕ) → fed_piece (before [] (split s)) p ≡ before [] (split (s ++ p))
fed_piece-split s p = drained-split (split s).items ((split s).rest ++ p) ∙ ap (before []) (sym (cut-append message_size message_size_is_size message_size_is_stable s p))

fold-fed_piece : (s : List ℕ) (ps : List (List ℕ)) → fold fed_piece (before [] (split s)) ps ≡ before [] (split (s ++ concat ps))
fold-fed_piece s [] = ap (λ x. before [] (split x)) (sym (append-nil s))
fold-fed_piece s (p ∷ ps) =
    ap (λ t. fold fed_piece t ps) (fed_piece-split s p) ∙ fold-fed_piece (s ++ p) ps ∙ ap (λ x. before [] (split x)) (append_assoc s p (concat ps))

-- all pieces together give the split of the stream that they join to
pub fed-split : (ps : List (List ℕ)) → fed ps ≡ taken (split (concat ps)).items (split (concat ps)).rest
unfolding cut
fed-split ps = fold-fed_piece [] ps

-- a whole message at the front is the first of the split
split-whole : (s : List ℕ) (len : ℕ) → message_size s ≡ Some len → split s ≡ after_item (take len s) (split (drop len s))
split-whole s len e = cut-some message_size message_size_is_size s len e

-- octets that begin with no whole message are the rest of the split
no_first : (s : List ℕ) → message_size s ≡ None → (split s ≡ pieces s) × (stream_fault s ≡ front_fault s)
no_first s e =
    let whole = cut-none message_size message_size_is_size s e in
    (whole, ap (λ (p : Pieces). front_fault p.rest) whole)

-- what is at the front is first in the split
pub next_is_first : (waits : List ℕ) (next : Next) → IsNext waits next → IsFirst waits next
next_is_first waits (Whole kind len) h = (split-whole waits len h.has_size, h.is_of_kind)
next_is_first waits More h = let p = no_first waits h.0 in (p.0, p.1 ∙ h.1)
next_is_first waits (Fault fault) h = let p = no_first waits h.0 in (p.0, p.1 ∙ h.1)

-- Changes as they are listed: a part more changes nothing that was said, and listed prefixes change the table in turn.
use Rattle.std.proofs.Common.{◌≡◌, ℕ, ◌<◌, Bool, true, false, if◌then◌else◌, List, [], ◌∷◌, ◌++◌, length, Option, Some}
use Rattle.std.proofs.Common.{None, Result, Ok, Err}
use Rattle.std.proofs.Common.{refl, sym, ◌∙◌, ap}
use Rattle.std.specs.List.{All}
use Rattle.std.specs.Option.{option_map}
use Rattle.std.proofs.Math.ListN.{get_or-append}
use Rattle.std.proofs.Math.Seq.{get_or-append_seam}
use Rattle.std.proofs.lemmas.List.Elements.{All-head, All-tail}
use Rattle.std.proofs.lemmas.List.Sums.{fold-append}
use Rattle.xb_words.specs.Cut.{cut, walk_from}
use Rattle.xb_values.specs.Prefixes.{Prefix, Sections}
use Rattle.bgp_update.specs.Walks.{prefixes_from}
use Rattle.heard_table.specs.Steps.{change, change_each}
use Rattle.heard_table.specs.Changes.{listed, part_at, played}
use Rattle.heard_table.specs.declared.change.Change.{Change}

-- changes of earlier parts leave the same table
played-new_part : (parts : List (Option (List ℕ))) (becomes : Option (List ℕ)) (cs : List Change) (table : Sections)
    → All (λ c. c.part < length parts) cs → played (parts ++ becomes ∷ []) cs table ≡ played parts cs table
played-new_part parts becomes [] table below = refl
played-new_part parts becomes (c ∷ cs) table below =
    let same : part_at (parts ++ becomes ∷ []) c.part ≡ part_at parts c.part =
    get_or-append parts (becomes ∷ []) None c.part (All-head (λ d. d.part < length parts) c cs below) in
    ap (λ (b : Option (List ℕ)). played (parts ++ becomes ∷ []) cs (change b table c.prefix)) same
    ∙ played-new_part parts becomes cs (change (part_at parts c.part) table c.prefix)
    (All-tail (λ d. d.part < length parts) c cs below)

-- the prefixes of steps change the table as the list that they make
change_each-listed : (parts : List (Option (List ℕ))) (part : ℕ) (ps : List (Result Prefix (Unit {0})))
    (cs : List Change)
    → change_each ps (part_at parts part) (played parts cs []) ≡ option_map (λ l. played parts l []) (listed part ps cs)
change_each-listed parts part [] cs = refl
change_each-listed parts part (Err bad ∷ ps) cs = refl
change_each-listed parts part (Ok p ∷ ps) cs =
    let c : Change = record { prefix = p; part = part } in
    ap (change_each ps (part_at parts part))
    (sym (fold-append (λ (t : Sections) (d : Change). change (part_at parts d.part) t d.prefix) [] cs (c ∷ [])))
    ∙ change_each-listed parts part ps (cs ++ c ∷ [])

-- the same where the part is the last one
change_each-last : (parts : List (Option (List ℕ))) (becomes : Option (List ℕ))
    (ps : List (Result Prefix (Unit {0}))) (cs : List Change) → All (λ c. c.part < length parts) cs
    → change_each ps becomes (played parts cs [])
    ≡ option_map (λ l. played (parts ++ becomes ∷ []) l []) (listed (length parts) ps cs)
change_each-last parts becomes ps cs below =
    ap (change_each ps becomes) (sym (played-new_part parts becomes cs [] below))
    ∙ ap (λ (b : Option (List ℕ)). change_each ps b (played (parts ++ becomes ∷ []) cs []))
    (sym (get_or-append_seam parts becomes [] None))
    ∙ change_each-listed (parts ++ becomes ∷ []) (length parts) ps cs

-- the same, as the prefixes are whole or not
pub change_each-whole : (parts : List (Option (List ℕ))) (becomes : Option (List ℕ))
    (ps : List (Result Prefix (Unit {0}))) (cs new : List Change) (whole : Bool) → All (λ c. c.part < length parts) cs
    → listed (length parts) ps cs ≡ (if whole then Some new else None)
    → change_each ps becomes (played parts cs [])
    ≡ (if whole then Some (played (parts ++ becomes ∷ []) new []) else None)
change_each-whole parts becomes ps cs new true below is =
    change_each-last parts becomes ps cs below ∙ ap (option_map (λ l. played (parts ++ becomes ∷ []) l [])) is
change_each-whole parts becomes ps cs new false below is =
    change_each-last parts becomes ps cs below ∙ ap (option_map (λ l. played (parts ++ becomes ∷ []) l [])) is

-- no octets change nothing
pub change_each-empty : (octets : List ℕ) (becomes : Option (List ℕ)) (table : Sections) → length octets ≡ 0
    → change_each (prefixes_from octets) becomes table ≡ Some table
unfolding walk_from cut
change_each-empty [] becomes table empty = refl
change_each-empty (b ∷ octets) becomes table empty = absurd (cc empty)

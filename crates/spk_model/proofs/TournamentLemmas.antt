-- Candidates and their ranks, and a tournament from any match on.
use Rattle.std.proofs.Common.{◌≡◌, ◌≢◌, refl, sym, ap, inl, inr, ◌∙◌, ℕ, ◌+◌, ◌<◌, ◌≤◌, Bool, true, false}
use Rattle.std.proofs.Common.{List, [], ◌∷◌, ◌++◌, length, map, get_or, take, drop, arith, add-one, nat_eq}
use Rattle.std.specs.Prelude.{IfSome, if◌then◌else◌, ◌||◌}
use Rattle.std.proofs.Math.ListN.{set, length-map}
use Rattle.std.proofs.Math.Seq.{drop-cons, take-suc, take-length}
use Rattle.std.proofs.lemmas.List.{get_or-map, map-append, drop_all, get_or_default, take_more_set}
use Rattle.std.proofs.lemmas.Option.{slice_get-get_or}
use Rattle.std.specs.List.{slice_get}
use Rattle.xb_domain.specs.declared.side.Side.{Side}
use Rattle.xb_values.specs.Prefixes.{Prefix}
use Rattle.spk_native.specs.declared.decision.Rank.{Rank}
use Rattle.spk_native.specs.Decision.{survivor}
use Rattle.spk_native.specs.Laws.{AreApart}
use Rattle.spk_native.proofs.ChosenLemmas.{IsChosen, IsChosen-marked, one_survivor}
use Rattle.xb_domain.specs.declared.point.Point.TheVariants.{Decision}
use Rattle.xbgp_manifest.specs.declared.entries.ProgramEntry.{ProgramEntry}
use Rattle.xbgp_manifest.specs.Manifests.{Manifest}
use Rattle.xbgp_points.specs.declared.outcome.Outcome.{Outcome}
use Rattle.xbgp_points.specs.Engines.{Kept}
use Rattle.xbgp_points.specs.declared.outcome.Outcome.TheVariants.{Native}
use Rattle.xbgp_points.specs.Chains.{chain, chain_from, programs_at}
use Rattle.xbgp_points.specs.Points.{Called, Engine, called, world_of}
use Rattle.xbgp_helpers.specs.Worlds.{nobody}
use Rattle.spk_model.specs.Choosing.{Candidate, Choice, AreRivals}
use Rattle.spk_model.specs.Tournaments.{Match, IsMeeting, first_match, meeting, after_meeting, meet, meet_all}
use Rattle.spk_model.specs.Tournaments.{chosen, choose, is_second_better, is_new_preferred, is_verdict}

-- the rank of a candidate
abbrev pub rank_of : Candidate → Rank
rank_of c = c.rank

-- two ranks with different addresses
pub two_apart : (a b : Rank) → a.address ≢ b.address → AreApart (a ∷ b ∷ [])
two_apart a b differ i j d before within =
    let e : i ≡ 0 = omega arith in
    let f : j ≡ 1 = omega arith in
    rw (e, f) differ

-- the ranks of candidates have distinct addresses as well
pub AreApart-ranks : (cs : List Candidate) → AreRivals cs → AreApart (map rank_of cs)
AreApart-ranks [] rivals i j d before within = absurd (omega (arith, within))
AreApart-ranks (c ∷ cs) rivals i j d before within =
    let l : length (map rank_of (c ∷ cs)) ≡ length (c ∷ cs) = length-map (c ∷ cs) rank_of in
    let w : j < length (c ∷ cs) = omega (arith, within, l) in
    rw (get_or-map rank_of (c ∷ cs) i c d (omega arith), get_or-map rank_of (c ∷ cs) j c d w) (rivals i j c before w)

-- one candidate is the best of all
pub survivor-alone : (cs : List Candidate) → length cs ≡ 1 → AreRivals cs → 0 ≡ survivor (map rank_of cs)
survivor-alone [] one rivals = absurd (omega (arith, one))
survivor-alone (c ∷ []) one rivals =
    let apart = AreApart-ranks (c ∷ []) rivals in
    let best = one_survivor (c.rank ∷ []) (omega arith) apart in
    let here : best.0 ≡ c.rank = elim best.1 [ inl same ↦ same | inr none ↦ absurd none ] in
    (IsChosen-marked (c.rank ∷ []) (true ∷ []) (omega arith) apart
    (sym (best.2 ∙ ap (λ (r : Rank). r ∷ []) here))).index
survivor-alone (c ∷ d ∷ cs) one rivals = absurd (omega (arith, one))

-- what a field gives as the rank at an index
pub rank_at : (cs : List Candidate) (i : ℕ) (d : Candidate) (r : Rank) → i < length cs
    → IfSome (slice_get cs i) (λ c. r ≡ c.rank) → r ≡ (get_or cs i d).rank
rank_at cs i d r within given = rw (slice_get-get_or cs i d within) at given

-- two of the ranks that a field gives
pub ranks_apart : (cs : List Candidate) (i j : ℕ) (r q : Rank) → AreRivals cs → i < j → j < length cs
    → IfSome (slice_get cs i) (λ c. r ≡ c.rank) → IfSome (slice_get cs j) (λ c. q ≡ c.rank) → AreApart (r ∷ q ∷ [])
ranks_apart [] i j r q rivals before within p s = absurd (omega (arith, within))
ranks_apart (c ∷ cs) i j r q rivals before within p s =
    let e = rank_at (c ∷ cs) i c r (omega arith) p in
    let f = rank_at (c ∷ cs) j c q within s in
    rw (e, f) (two_apart (get_or (c ∷ cs) i c).rank (get_or (c ∷ cs) j c).rank (rivals i j c before within))

-- the native decision of two of them
pub second_better : (cs : List Candidate) (i j n : ℕ) (r q : Rank) (d : Candidate) → i < j → j < length cs
    → IfSome (slice_get cs i) (λ c. r ≡ c.rank) → IfSome (slice_get cs j) (λ c. q ≡ c.rank) → n ≡ survivor (r ∷ q ∷ [])
    → nat_eq n 1 ≡ is_second_better (get_or cs i d) (get_or cs j d)
second_better cs i j n r q d before within p s given =
    let e = rank_at cs i d r (omega arith) p in
    let f = rank_at cs j d q within s in
    let first = ap (λ (x : Rank). survivor (x ∷ q ∷ [])) e in
    let both = first ∙ ap (λ (x : Rank). survivor ((get_or cs i d).rank ∷ x ∷ [])) f in
    ap (λ (m : ℕ). nat_eq m 1) (given ∙ both)

-- one more rank is copied
one_more : (ranks : List Rank) (cs : List Candidate) (i : ℕ) (r : Rank) (d : Candidate) → i < length cs
    → i < length ranks → r ≡ (get_or cs i d).rank → take i ranks ≡ map rank_of (take i cs)
    → take (i + 1) (set ranks i r) ≡ map rank_of (take (i + 1) cs)
one_more ranks cs i r d within room is so_far =
    let more : map rank_of (take (i + 1) cs) ≡ map rank_of (take i cs) ++ (get_or cs i d).rank ∷ [] =
    rw (add-one, take-suc cs i d within) (map-append rank_of (take i cs) (get_or cs i d ∷ [])) in
    take_more_set ranks i r room ∙ rw (so_far, is) (sym more)

-- the same of a rank that a field gives
pub ranks_more : (ranks : List Rank) (cs : List Candidate) (i : ℕ) (r : Rank) → i < length cs → i < length ranks
    → IfSome (slice_get cs i) (λ c. r ≡ c.rank) → take i ranks ≡ map rank_of (take i cs)
    → take (i + 1) (set ranks i r) ≡ map rank_of (take (i + 1) cs)
ranks_more ranks [] i r within room p so_far = absurd (omega (arith, within))
ranks_more ranks (c ∷ cs) i r within room p so_far =
    one_more ranks (c ∷ cs) i r c within room (rank_at (c ∷ cs) i c r within p) so_far

-- all ranks are copied
pub ranks_filled : (ranks : List Rank) (cs : List Candidate) (i n : ℕ) → n ≡ length cs → i ≡ n
    → take i ranks ≡ map rank_of (take i cs) → take n ranks ≡ map rank_of cs
ranks_filled ranks cs i n all here so_far =
    let whole : take i cs ≡ cs = rw (here, all) (take-length cs) in
    rw (← here) (so_far ∙ ap (map rank_of) whole)

-- before the first meeting
pub choose-first : (m : Manifest) (local : Side) (prefix : Prefix) (e : Engine) (first : Candidate)
    (others : List Candidate)
    → choose m local e prefix (first ∷ others)
    ≡ chosen (first ∷ others) (meet_all m local prefix (first_match e first) 1 others)
unfolding choose
choose-first m local prefix e first others = refl

-- the next meeting
pub meet_all-next : (m : Manifest) (local : Side) (prefix : Prefix) (k : Match) (i : ℕ)
    (cs : List Candidate) (d : Candidate) → i < length cs
    → meet_all m local prefix k i (drop i cs)
    ≡ meet_all m local prefix (meet m local prefix k i (get_or cs i d)) (i + 1) (drop (i + 1) cs)
meet_all-next m local prefix k i cs d within = rw (drop-cons cs i d within)
    (ap (λ (n : ℕ). meet_all m local prefix (meet m local prefix k i (get_or cs i d)) (i + 1) (drop n cs))
    (sym (add-one i)))

-- after the last meeting
pub meet_all-end : (m : Manifest) (local : Side) (prefix : Prefix) (k : Match) (i : ℕ)
    (cs : List Candidate) → length cs ≤ i
    → meet_all m local prefix k i (drop i cs) ≡ k
meet_all-end m local prefix k i cs over = rw (drop_all i cs over) refl

-- a tournament has come to an index: the match so far, and that the rest of the tournament is the choice
pub record Comes (m : Manifest) (local : Side) (e : Engine) (prefix : Prefix) (cs : List Candidate)
    (i champion : ℕ) (by_program : Bool) (now : Engine) : Type 0 where
  pub so_far : Match
  pub index : so_far.index ≡ champion
  pub best : (d : Candidate) → so_far.champion ≡ get_or cs champion d
  pub program : so_far.by_program ≡ by_program
  pub engine : so_far.engine ≡ now
  pub rest : choose m local e prefix cs ≡ chosen cs (meet_all m local prefix so_far i (drop i cs))

-- it begins
pub comes_first : (m : Manifest) (local : Side) (e : Engine) (prefix : Prefix) (cs : List Candidate) → 1 ≤ length cs
    → Comes m local e prefix cs 1 0 false e
comes_first m local e prefix [] some = absurd (omega (arith, some))
comes_first m local e prefix (first ∷ others) some = record {
  so_far = first_match e first;
  index = refl;
  best = λ d. refl;
  program = refl;
  engine = refl;
  rest = choose-first m local prefix e first others;
}

-- the candidate at the index of the winner
winner_at : (cs : List Candidate) (i champion next : ℕ) (wins : Bool) (x y d : Candidate)
    → next ≡ (if wins then i else champion) → x ≡ get_or cs i d → y ≡ get_or cs champion d
    → (if wins then x else y) ≡ get_or cs next d
winner_at cs i champion next true x y d e p q = p ∙ ap (λ (n : ℕ). get_or cs n d) (sym e)
winner_at cs i champion next false x y d e p q = q ∙ ap (λ (n : ℕ). get_or cs n d) (sym e)

-- it goes on
pub comes_next : (m : Manifest) (local : Side) (e : Engine) (prefix : Prefix) (cs : List Candidate)
    (i champion next : ℕ) (by_program said wins : Bool) (before after : Kept) (given : Outcome)
    → Comes m local e prefix cs i champion by_program before.engine → before.manifest ≡ m → before.local ≡ local
    → i < length cs → champion < length cs
    → ((d : Candidate) → IsMeeting before after prefix (get_or cs champion d) (get_or cs i d) given)
    → ((d : Candidate) → wins ≡ is_new_preferred given (get_or cs champion d) (get_or cs i d))
    → next ≡ (if wins then i else champion) → said ≡ by_program || is_verdict given
    → Comes m local e prefix cs (i + 1) next said after.engine
comes_next m local e prefix [] i champion next by_program said wins before after given
    k of_manifest of_local within in_too ran won went tells = absurd (omega (arith, within))
comes_next m local e prefix (first ∷ others) i champion next by_program said wins before after given
    k of_manifest of_local within in_too ran won went tells =
    let cs = first ∷ others in
    let old = get_or cs champion first in
    let new = get_or cs i first in
    let r = ran first in
    let b = k.best first in
    let c = meeting m local (k.so_far).engine prefix (k.so_far).champion new in
    let o : c.outcome ≡ given = rw (b, k.engine, ← of_manifest, ← of_local) (sym r.outcome) in
    let after_is : c.engine ≡ after.engine = rw (b, k.engine, ← of_manifest, ← of_local) (sym r.engine) in
    let w : is_new_preferred c.outcome (k.so_far).champion new ≡ wins = rw (o, b) (sym (won first)) in
    record {
      so_far = after_meeting k.so_far i new c;
      index = rw (w, k.index) (sym went);
      best = λ d. rw w
          (winner_at cs i champion next wins new (k.so_far).champion d went
          (get_or_default cs i first d within) (k.best d));
      program = rw (o, k.program) (sym tells);
      engine = after_is;
      rest = k.rest ∙ ap (chosen cs) (meet_all-next m local prefix k.so_far i cs first within);
    }

-- it ends
pub comes_last : (m : Manifest) (local : Side) (e : Engine) (prefix : Prefix) (cs : List Candidate) (i champion : ℕ)
    (by_program : Bool) (now : Engine) → Comes m local e prefix cs i champion by_program now → length cs ≤ i
    → ((choose m local e prefix cs).index ≡ (if by_program then champion else survivor (map rank_of cs)))
    × ((choose m local e prefix cs).engine ≡ now)
comes_last m local e prefix cs i champion by_program now k over =
    let r = k.rest ∙ ap (chosen cs) (meet_all-end m local prefix k.so_far i cs over) in
    (ap (λ (c : Choice). c.index) r ∙ rw (k.program, k.index) refl, ap (λ (c : Choice). c.engine) r ∙ k.engine)

-- without a program at decision no outcome is a verdict, and nothing changes
native_meeting : (m : Manifest) (local : Side) (e : Engine) (prefix : Prefix) (old new : Candidate)
    → programs_at m Decision ≡ []
    → ((meeting m local e prefix old new).outcome ≡ Native) × ((meeting m local e prefix old new).engine ≡ e)
unfolding chain
native_meeting m local e prefix old new none =
    let w = world_of e local nobody old.side prefix 0 old.route new.route new.side in
    let ends : List (ℕ × ProgramEntry) → Called =
    λ ps. called (chain_from Decision [] w e.faults ps w) in (
      ap (λ (ps : List (ℕ × ProgramEntry)). (ends ps).outcome) none,
      ap (λ (ps : List (ℕ × ProgramEntry)). (ends ps).engine) none,
    )

-- nor do all meetings
native_meetings : (m : Manifest) (local : Side) (prefix : Prefix) (k : Match) (i : ℕ) (cs : List Candidate)
    → programs_at m Decision ≡ [] → k.by_program ≡ false
    → ((meet_all m local prefix k i cs).by_program ≡ false)
    × ((meet_all m local prefix k i cs).engine ≡ k.engine)
native_meetings m local prefix k i [] none so_far = (so_far, refl)
native_meetings m local prefix k i (c ∷ cs) none so_far =
    let met = native_meeting m local k.engine prefix k.champion c none in
    let next = meet m local prefix k i c in
    let rest = native_meetings m local prefix next (i + 1) cs none (rw (so_far, met.0) refl) in
    (rest.0, rest.1 ∙ met.1)

-- without a program at decision the choice is the best by the native decision of all
pub native_choice : (m : Manifest) (local : Side) (e : Engine) (prefix : Prefix) (cs : List Candidate)
    → programs_at m Decision ≡ [] → 1 ≤ length cs
    → ((choose m local e prefix cs).index ≡ survivor (map rank_of cs))
    × ((choose m local e prefix cs).engine ≡ e)
unfolding choose
native_choice m local e prefix [] none some = absurd (omega (arith, some))
native_choice m local e prefix (first ∷ others) none some =
    let r = native_meetings m local prefix (first_match e first) 1 others none refl in
    (rw r.0 refl, r.1)

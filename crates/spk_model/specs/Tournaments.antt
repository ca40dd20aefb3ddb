-- The choice among candidates (this project's own, over the decision of RFC 4271, section 9.1.2): each candidate meets
-- the champion of those before it, and programs may say which of the two is better. If none says so of any two, the
-- best one is that of the native decision of all.
use Rattle.std.specs.Prelude.{◌≡◌, ℕ, ◌+◌, Bool, false, true, List, [], ◌∷◌, ◌++◌, map, ◌==◌, ◌||◌, if◌then◌else◌}
use Rattle.xb_domain.specs.declared.point.Point.TheVariants.{Decision}
use Rattle.xb_domain.specs.declared.side.Side.{Side}
use Rattle.xb_values.specs.Prefixes.{Prefix}
use Rattle.spk_native.specs.Decision.{survivor}
use Rattle.xbgp_manifest.specs.Manifests.{Manifest}
use Rattle.xbgp_points.specs.declared.outcome.Outcome.{Outcome}
use Rattle.xbgp_points.specs.declared.outcome.Outcome.TheVariants.{Verdict, Native, Failed}
use Rattle.xbgp_points.specs.Engines.{Kept}
use Rattle.xbgp_points.specs.Points.{Engine, Called, prefer}
use Rattle.spk_model.specs.Choosing.{Trace, Candidate, Choice}

-- the champion so far and its index, whether a program gave a verdict so far, and what the programs left
pub record Match : Type 0 where
  pub index : ℕ
  pub champion : Candidate
  pub by_program : Bool
  pub engine : Engine
  pub trace : Trace

-- before any meeting the first candidate is the champion
abbrev pub first_match : Engine → Candidate → Match
first_match engine first = record { index = 0; champion = first; by_program = false; engine = engine; trace = [] }

-- the native decision prefers the second of two
abbrev pub is_second_better : Candidate → Candidate → Bool
is_second_better old new = survivor (old.rank ∷ new.rank ∷ []) == 1

-- the new one of two is preferred: 2 is the verdict NEW, and without a verdict the native decision says it
abbrev pub is_new_preferred : Outcome → Candidate → Candidate → Bool
is_new_preferred (Verdict v) old new = v == 2
is_new_preferred Native old new = is_second_better old new
is_new_preferred (Failed program cause) old new = is_second_better old new

-- a program decided
abbrev pub is_verdict : Outcome → Bool
is_verdict (Verdict v) = true
is_verdict Native = false
is_verdict (Failed program cause) = false

-- the programs at decision on two candidates
abbrev pub meeting : Manifest → Side → Engine → Prefix → Candidate → Candidate → Called
meeting manifest local engine prefix old new = prefer manifest local engine prefix old.route old.side new.route new.side

-- the programs at decision ran on two candidates (for the loop of src/tournament.rt)
pub record IsMeeting (before after : Kept) (prefix : Prefix) (old new : Candidate) (given : Outcome) : Type 0 where
  pub outcome : given ≡ (meeting before.manifest before.local before.engine prefix old new).outcome
  pub engine : after.engine ≡ (meeting before.manifest before.local before.engine prefix old new).engine

-- a match after the champion met the candidate at an index, by what the programs gave
abbrev pub after_meeting : Match → ℕ → Candidate → Called → Match
after_meeting m index new c =
    let wins = is_new_preferred c.outcome m.champion new in
    record {
      index = (if wins then index else m.index);
      champion = (if wins then new else m.champion);
      by_program = m.by_program || is_verdict c.outcome;
      engine = c.engine;
      trace = m.trace ++ (Decision, c.outcome) ∷ [];
    }

module _ (manifest : Manifest) (local : Side) (prefix : Prefix) where
  -- the champion meets the candidate at an index
  abbrev pub meet : Match → ℕ → Candidate → Match
  meet m index new = after_meeting m index new (meeting manifest local m.engine prefix m.champion new)

  -- the champion meets the others in turn, of which the first is at an index
  abbrev pub meet_all : Match → ℕ → List Candidate → Match
  meet_all m index [] = m
  meet_all m index (new ∷ others) = meet_all (meet m index new) (index + 1) others

-- the champion if a program gave a verdict, and else the best by the native decision of all
abbrev pub chosen : List Candidate → Match → Choice
chosen candidates m = record {
  index = (if m.by_program then m.index else survivor (map (λ c. c.rank) candidates));
  engine = m.engine;
  trace = m.trace;
}

-- the choice among candidates by rising source number
unfoldable pub choose : Manifest → Side → Engine → Prefix → List Candidate → Choice
choose manifest local engine prefix [] = record { index = 0; engine = engine; trace = [] }
choose manifest local engine prefix (first ∷ others) =
    chosen (first ∷ others) (meet_all manifest local prefix (first_match engine first) 1 others)

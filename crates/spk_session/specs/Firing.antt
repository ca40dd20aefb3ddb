-- Which timer fires next, by the sessions alone, and what it does (this project's own).
use Rattle.std.specs.Prelude.{ℕ, List, [], Option, None, fold}
use Rattle.std.specs.Option.{option_map}
use Rattle.bgp_fsm.specs.Sessions.{Owned, due}
use Rattle.spk_model.specs.declared.host.Setup.{Setup}
use Rattle.spk_model.specs.Sources.{session_of}
use Rattle.spk_model.specs.Turning.{Turn, Due, earlier_due, stimulus_of, set_clock, react, time_turns}
use Rattle.spk_session.specs.Meaning.{Core, Does}

-- the timer of a peer that is due first
abbrev pub due_at : List Owned → ℕ → Option Due
due_at sessions p =
    option_map (λ d. record { at = d.0; peer = p; timer = d.1 }) (due (session_of sessions p).session)

-- the first timer of some peers
abbrev pub first_of : List Owned → List ℕ → Option Due
first_of sessions peers = fold (λ a p. earlier_due a (due_at sessions p)) None peers

-- a timer fires at its due time
abbrev pub fires : Setup → Due → Turn → Turn
fires setup d t = react setup (set_clock t d.at) d.peer (stimulus_of d.timer) []

-- what some turns lead to from one core, all turns lead to from the first
abbrev pub Leads : ℕ → ℕ → Core → ℕ → Core → Type 0
Leads now all first left c = (last : Core) → Does (λ setup t. time_turns setup left t now) c last
    → Does (λ setup t. time_turns setup all t now) first last

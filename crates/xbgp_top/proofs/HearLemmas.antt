-- The answer to a stream that gives a table.
use Rattle.std.proofs.Common.{◌≡◌, ℕ, List, ◌++◌, Ok, Err, ap}
use Rattle.std.specs.Prelude.{Result}
use Rattle.xb_values.specs.Prefixes.{Sections}
use Rattle.bgp_update.specs.Heard.{heard}
use Rattle.xbgp_top.specs.declared.status.Status.TheVariants.{Done, BadStream}
use Rattle.spk_model.specs.Reports.{end_line}
use Rattle.xbgp_top.specs.Answers.{Outcome, answered, ended, heard_outcome, heard_lines}

-- a stream that gives a table
pub heard_outcome-ok : (octets : List ℕ) (table : Sections) → heard octets ≡ Ok table
    → ended (heard_outcome octets) ≡ answered Done (heard_lines table ++ end_line)
heard_outcome-ok octets table e =
    let by : Result Sections ℕ → Outcome (List ℕ) = λ r. elim r as (λ x. Outcome (List ℕ))
    [ Ok t ↦ Ok (heard_lines t ++ end_line) | Err at ↦ Err (BadStream at) ] in
    ap (λ (r : Result Sections ℕ). ended (by r)) e

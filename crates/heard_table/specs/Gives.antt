-- What `heard` returns.
use Rattle.std.specs.Prelude.{◌≡◌, ℕ, Result, Ok, Err}
use Rattle.xb_values.specs.Prefixes.{Sections}
use Rattle.heard_table.specs.declared.table.HeardError.{HeardError}
use Rattle.heard_table.specs.declared.table.HeardError.TheVariants.{OutOfMemory, Bad}

-- the table of a stream, or the offset of what is refused first, unless memory ran out
abbrev pub GivesTable : Result Sections HeardError → Result Sections ℕ → Type 0
GivesTable (Ok table) heard = heard ≡ Ok table
GivesTable (Err OutOfMemory) heard = Unit {0}
GivesTable (Err (Bad at)) heard = heard ≡ Err at

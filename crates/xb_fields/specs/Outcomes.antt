-- What a reader that takes memory returns.
use Rattle.std.specs.Prelude.{◌≡◌, ⊤, Option, Some, None, Result, Ok, Err, MatchOption}
use Rattle.xb_fields.specs.declared.fault.FieldFault.{FieldFault}
use Rattle.xb_fields.specs.declared.fault.FieldError.{FieldError}
use Rattle.xb_fields.specs.declared.fault.FieldError.TheVariants.{OutOfMemory, Bad}
use Rattle.xb_fields.specs.Fields.{Judged}

-- what is judged, or want of memory; `fault` is the fault of an error, and None for want of memory
abbrev pub GivesBy : {A E F : Type 0} → (E → Option F) → Result A E → Result A F → Type 0
GivesBy fault (Ok x) judged = judged ≡ Ok x
GivesBy fault (Err error) judged = MatchOption (fault error) ⊤ (λ bad. judged ≡ Err bad)

-- the fault of an error
abbrev pub field_fault : FieldError → Option FieldFault
field_fault OutOfMemory = None
field_fault (Bad fault) = Some fault

-- what is judged of fields, or want of memory
abbrev pub Gives : {A : Type 0} → Result A FieldError → Judged A → Type 0
Gives result judged = GivesBy field_fault result judged

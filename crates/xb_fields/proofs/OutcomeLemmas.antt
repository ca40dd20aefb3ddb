-- What a reader returns at the exit of a `?`, and what a caller reads from it.
use Rattle.std.proofs.Common.{◌≡◌, Option, Some, None, Result, Ok, Err, MatchOption, refl, sym, ap, ◌∙◌}
use Rattle.std.specs.Result.{IsErrAnd, result_map_both}
use Rattle.std.specs.Prelude.{⊤, IfOk, IsErrOf}
use Rattle.std.specs.Option.{option_map}
use Rattle.xb_fields.specs.declared.fault.FieldFault.{FieldFault}
use Rattle.xb_fields.specs.declared.fault.FieldError.{FieldError}
use Rattle.xb_fields.specs.declared.fault.FieldError.TheVariants.{Bad}
use Rattle.xb_fields.specs.Fields.{Judged}
use Rattle.xb_fields.specs.Outcomes.{Gives, GivesBy, field_fault}

-- a fault that is returned
pub gives-fault : {A : Type 0} (r : Result A FieldError) (judged : Judged A) (fault : FieldFault) → IsErrAnd r (λ e. e ≡ Bad fault) → judged ≡ Err fault → Gives r judged
gives-fault (Ok x) judged fault h e = absurd h
gives-fault (Err error) judged fault h e = rw h e

-- what one kind of error says of another kind, if the fault of the second is made of the first's
error_gives : {A B F G : Type 0} (lift : F → G) (o : Option F) (p : Option G) (below : Result A F) (judged : Result B G) → p ≡ option_map lift o
    → MatchOption o ⊤ (λ bad. below ≡ Err bad) → ((bad : F) → below ≡ Err bad → judged ≡ Err (lift bad)) → MatchOption p ⊤ (λ bad. judged ≡ Err bad)
error_gives lift None p below judged is given on = rw is tt
error_gives lift (Some bad) p below judged is given on = rw is (on bad given)

-- an error of a call that is returned, by another type of error
pub gives-lifted : {A B E F D G : Type 0} (fault : E → Option F) (wider : D → Option G) (lift : F → G) (r : Result B D) (error : E) (below : Result A F) (judged : Result B G)
    → IsErrAnd r (λ e. wider e ≡ option_map lift (fault error)) → GivesBy fault (Err error) below
    → ((bad : F) → below ≡ Err bad → judged ≡ Err (lift bad)) → GivesBy wider r judged
gives-lifted fault wider lift (Ok x) error below judged h given on = absurd h
gives-lifted fault wider lift (Err e) error below judged h given on = error_gives lift (fault error) (wider e) below judged h given on

option_map-id : {A : Type 0} (o : Option A) → o ≡ option_map (λ x. x) o
option_map-id None = refl
option_map-id (Some x) = refl

-- the same for an error that stays as it is
pub gives-error : {A B E F : Type 0} (fault : E → Option F) (r : Result B E) (error : E) (below : Result A F) (judged : Result B F) → IsErrAnd r (λ e. e ≡ error) → GivesBy fault (Err error) below
    → ((bad : F) → below ≡ Err bad → judged ≡ Err bad) → GivesBy fault r judged
gives-error fault (Ok x) error below judged h given on = absurd h
gives-error fault (Err e) error below judged h given on = error_gives (λ x. x) (fault error) (fault e) below judged (ap fault h ∙ option_map-id (fault error)) given on

-- a fault that is returned, if a contract sees the view of a value
pub gives-view_fault : {A B : Type 0} (view : B → A) (r : Result B FieldError) (judged : Judged A) (fault : FieldFault) → IsErrAnd r (λ e. e ≡ Bad fault) → judged ≡ Err fault
    → Gives (result_map_both view (λ e. e) r) judged
gives-view_fault view (Ok x) judged fault h e = absurd h
gives-view_fault view (Err error) judged fault h e = rw h e

-- an error of a call that is returned, if a contract sees the view of a value
pub gives-view_error : {A B C : Type 0} (view : B → A) (r : Result B FieldError) (error : FieldError) (below : Judged C) (judged : Judged A) → IsErrAnd r (λ e. e ≡ error) → Gives (Err error) below
    → ((bad : FieldFault) → below ≡ Err bad → judged ≡ Err bad) → Gives (result_map_both view (λ e. e) r) judged
gives-view_error view (Ok x) error below judged h given on = absurd h
gives-view_error view (Err e) error below judged h given on = error_gives (λ x. x) (field_fault error) (field_fault e) below judged (ap field_fault h ∙ option_map-id (field_fault error)) given on

-- what a caller reads: a value, and a fault
pub gives-ok : {A E F : Type 0} (fault : E → Option F) (r : Result A E) (judged : Result A F) → GivesBy fault r judged → IfOk r (λ x. judged ≡ Ok x)
gives-ok fault (Ok x) judged h = h
gives-ok fault (Err e) judged h = tt

pub gives-bad : {A E F : Type 0} (fault : E → Option F) (r : Result A E) (judged : Result A F) (error : E) (bad : F) → fault error ≡ Some bad → GivesBy fault r judged → IsErrOf r error → judged ≡ Err bad
gives-bad fault (Ok x) judged error bad is h e = absurd (cc e)
gives-bad fault (Err e) judged error bad is h same =
    let here : e ≡ error = cc same in
    let some : fault e ≡ Some bad = ap fault here ∙ is in
    rw some at h

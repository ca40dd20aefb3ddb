-- A text that must be there, and what is read from it.
use Rattle.std.proofs.Common.{◌≡◌, ℕ, List, Option, Ok, Err, refl, ap, ◌∙◌}
use Rattle.toml.specs.Data.{Data, Members, get_member}
use Rattle.xb_domain.specs.declared.bad.BadKind.TheVariants.{Range, Missing}
use Rattle.xb_fields.specs.declared.fault.FieldFault.{FieldFault}
use Rattle.xb_fields.specs.declared.fault.Location.{Location}
use Rattle.xb_fields.specs.Fields.{Judged, ◌>>=◌, present, required, string_in, text}

bind-text : {A : Type 0} (at : Location) (read : List ℕ → Option A) (m : Judged Data) → (m >>= text at read) ≡ ((m >>= string_in at) >>= (λ s. present at Range (read s)))
bind-text at read (Ok d) = refl
bind-text at read (Err bad) = refl

-- the text at a key is found, and then read
pub required-text : {A : Type 0} (at : Location) (key : List ℕ) (read : List ℕ → Option A) (ms : Members)
    → required at key (text at read) ms ≡ (required at key (string_in at) ms >>= (λ s. present at Range (read s)))
unfolding required
required-text at key read ms = bind-text at read (present at Missing (get_member key ms))

-- a fault of the text, and a text
pub text_absent : {A : Type 0} (at : Location) (key : List ℕ) (read : List ℕ → Option A) (ms : Members) (bad : FieldFault)
    → required at key (string_in at) ms ≡ Err bad → required at key (text at read) ms ≡ Err bad
text_absent at key read ms bad e = required-text at key read ms ∙ ap (λ m. m >>= (λ s. present at Range (read s))) e

pub text_present : {A : Type 0} (at : Location) (key : List ℕ) (read : List ℕ → Option A) (ms : Members) (s : List ℕ)
    → required at key (string_in at) ms ≡ Ok s → required at key (text at read) ms ≡ present at Range (read s)
text_present at key read ms s e = required-text at key read ms ∙ ap (λ m. m >>= (λ t. present at Range (read t))) e

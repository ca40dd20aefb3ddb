pub mod ValueLemmas
pub mod DocumentLemmas
pub mod StepLemmas
pub mod TextLemmas
pub mod OutcomeLemmas
pub mod FieldLemmas

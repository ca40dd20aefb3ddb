pub mod ExportLemmas
pub mod RebuildsLemmas
pub mod NarrowLemmas
pub mod ReceiptLemmas
mod ReplacesLemmas
mod UsualLemmas
pub mod ReceiptRows
pub mod ValuesLemmas
pub mod LeftLemmas
pub mod OrderLemmas
pub mod ChosenLemmas
pub mod FoldLemmas
pub mod DecisionRows
pub mod MarksLemmas
pub mod CarryLemmas
pub mod FaultLemmas
pub mod FormedLemmas
pub mod WideNarrowLemmas
pub mod SoundLemmas
pub mod SentLemmas

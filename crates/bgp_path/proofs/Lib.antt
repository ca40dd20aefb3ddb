pub mod NumbersLemmas
pub mod PrependLemmas
pub mod SplitsLemmas
pub mod WritingLemmas
pub mod UnitsLemmas
pub mod WidthsLemmas

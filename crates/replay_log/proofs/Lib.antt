pub mod LineLemmas
pub mod HexLemmas
pub mod ReadingLemmas
pub mod PartLemmas
pub mod AheadLemmas
pub mod LogLemmas
pub mod FitLemmas
mod LogRows

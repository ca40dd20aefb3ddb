pub mod SumLemmas
pub mod NameLemmas
pub mod ManifestLemmas
pub mod OutcomeLemmas

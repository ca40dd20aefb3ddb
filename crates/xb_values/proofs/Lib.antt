pub mod BufferLemmas
pub mod DigitsLemmas
pub mod PrefixLemmas
pub mod ReaderLemmas
pub mod TextLemmas

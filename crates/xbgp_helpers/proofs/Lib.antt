pub mod AttributesLemmas
pub mod MapsLemmas
pub mod ChangesLemmas
pub mod ShowsLemmas
pub mod RunsLemmas

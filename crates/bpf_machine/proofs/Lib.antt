pub mod WordLemmas
pub mod StepLemmas
pub mod FollowLemmas
pub mod RunLemmas
pub mod FuelLemmas
pub mod WorldLemmas
mod RunExamples

pub mod CodesLemmas
pub mod JudgementLemmas

mod InputLemmas
mod OutputLemmas
mod HearLemmas
mod JudgeLemmas
mod StopLemmas
mod ThenLemmas
mod TopLemmas
mod WorkLemmas

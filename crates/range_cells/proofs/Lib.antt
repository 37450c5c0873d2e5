pub mod TurnLemmas
pub mod ComparingLemmas
pub mod ChangingLemmas

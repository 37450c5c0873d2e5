pub mod UsedLemmas
pub mod VictimLemmas
pub mod BookLemmas

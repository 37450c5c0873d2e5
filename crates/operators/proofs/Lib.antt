pub mod NumberLemmas
pub mod ListLemmas
pub mod GroupLemmas
pub mod SlotLemmas
pub mod EvaluationLemmas

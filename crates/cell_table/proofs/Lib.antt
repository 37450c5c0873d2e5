pub mod SlotLemmas
pub mod DirectedLemmas
pub mod StoreLemmas
pub mod EvictLemmas
pub mod PartLemmas
pub mod LendLemmas
pub mod CellLemmas

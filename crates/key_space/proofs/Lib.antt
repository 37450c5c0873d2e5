pub mod NameLemmas
pub mod BoundLemmas
pub mod NumberLemmas

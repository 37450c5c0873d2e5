pub mod ArgumentLemmas
pub mod LawLemmas

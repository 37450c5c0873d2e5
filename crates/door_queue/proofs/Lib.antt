pub mod RunLemmas
pub mod TallyLemmas

pub mod StreamLemmas
pub mod WriteProgress

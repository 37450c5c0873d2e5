pub mod ToldLemmas
pub mod LineLemmas
pub mod SendLemmas
pub mod TakeLemmas
pub mod PieceLemmas
pub mod ReadLemmas

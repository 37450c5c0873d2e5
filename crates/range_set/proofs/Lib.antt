pub mod BoundLemmas
pub mod JoinedLemmas
pub mod PieceLemmas
pub mod HeldLemmas
pub mod StoredLemmas
pub mod CoverLemmas

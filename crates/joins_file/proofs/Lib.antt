pub mod DeclareLemmas
pub mod RowLemmas

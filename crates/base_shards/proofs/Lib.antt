pub mod ListLemmas
pub mod OrderLemmas
pub mod ReadingLemmas
pub mod ChangedLemmas
pub mod ShardLemmas
pub mod MarkLemmas

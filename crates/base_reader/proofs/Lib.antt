pub mod LaterLemmas
pub mod ReachingLemmas
pub mod ReadingLemmas
pub mod EnteringLemmas
pub mod RankLemmas

pub mod VerdictLemmas
mod HidingLemmas
mod ReplayLemmas
mod RankLemmas

pub mod JoinLemmas
pub mod KeyLemmas
pub mod PlanLemmas
pub mod PosterLemmas
pub mod WriteLemmas
pub mod SharedLemmas

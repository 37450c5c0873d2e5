pub mod MoveLemmas
pub mod PartLemmas
pub mod JoinLemmas
pub mod KeyLemmas
pub mod TellingLemmas
pub mod AboveLemmas
pub mod ValueLemmas

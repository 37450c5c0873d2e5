pub mod LentLemmas
pub mod GivenLemmas
pub mod FollowedLemmas
pub mod KnownLemmas

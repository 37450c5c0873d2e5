pub mod LookLemmas
pub mod ActLemmas
pub mod JobLemmas
pub mod MeetLemmas
pub mod LoadLemmas

pub mod RoomLemmas
pub mod ReplayLemmas
pub mod FileLemmas
pub mod RunLemmas

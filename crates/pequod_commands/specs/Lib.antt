pub mod Built
pub mod Statuses
pub mod Replays
pub mod Serves
pub mod Loads
pub mod Messages
pub mod Numbered

pub mod Joined
pub mod Held
pub mod Pieces
pub mod Gaps
pub mod Stored

pub mod Shared
pub mod Registered
pub mod Forks
pub mod Spans
pub mod Sides
pub mod Indexed
pub mod Marked

pub mod Differences
pub mod Written
pub mod Compared

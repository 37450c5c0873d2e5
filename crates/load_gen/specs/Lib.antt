pub mod Keys
pub mod Plans
pub mod Joins
pub mod Entries
pub mod Lines
pub mod Shares

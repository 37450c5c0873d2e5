pub mod Plain
pub mod Writes
pub mod Causes

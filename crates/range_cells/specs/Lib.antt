pub mod Turns
pub mod Comparing
pub mod Asked

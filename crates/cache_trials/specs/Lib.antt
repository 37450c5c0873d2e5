pub mod Passes
pub mod Seated

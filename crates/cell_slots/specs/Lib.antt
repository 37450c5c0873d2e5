pub mod Serving
pub mod Telling
pub mod Places
pub mod Slots
pub mod FrameLaws
pub mod Spending
pub mod Gaps

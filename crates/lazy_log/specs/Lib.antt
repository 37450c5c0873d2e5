pub mod Pending
pub mod Held
pub mod Laws
pub mod Index

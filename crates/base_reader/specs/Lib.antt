pub mod Holds
pub mod Spent
pub mod Reaching
pub mod Hiding

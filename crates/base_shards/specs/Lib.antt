pub mod Shards
pub mod Marks
pub mod Reading
pub mod Changed
pub mod Laws

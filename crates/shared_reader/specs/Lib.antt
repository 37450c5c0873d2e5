pub mod Readable
pub mod Keeping
pub mod Following
pub mod Noting
pub mod Known
pub mod Lent

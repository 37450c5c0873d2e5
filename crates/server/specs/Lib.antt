pub mod Doors
pub mod Staffs
pub mod Receipts
pub mod Endings

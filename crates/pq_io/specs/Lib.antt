pub mod CallLog
pub mod Doors
pub mod Faults
pub mod Links
pub mod Memory
pub mod Shelf
pub mod Streams

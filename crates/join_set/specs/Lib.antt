pub mod SlotTests
pub mod Readings
pub mod Sets
pub mod Timelines
pub mod Faults
pub mod Summaries

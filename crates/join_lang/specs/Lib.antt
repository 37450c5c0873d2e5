pub mod Readings
pub mod Words
pub mod Cuts
pub mod Faults
pub mod Steps
pub mod Printed
pub mod JoinTextLaws

pub mod Doors
pub mod Bells
pub mod Runs
pub mod Tallies

pub mod Cells
pub mod Advancing
pub mod Handing
pub mod Spots
pub mod Listings
pub mod Directories

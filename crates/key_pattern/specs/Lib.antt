pub mod Plain
pub mod Places
pub mod Pieces
pub mod Shared
pub mod Fixed
pub mod Narrowing
pub mod SlotOrder
pub mod SlotPlaces

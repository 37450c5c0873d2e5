pub mod Laid
pub mod Found
pub mod Leaves
pub mod Placed
pub mod Kept
pub mod Order

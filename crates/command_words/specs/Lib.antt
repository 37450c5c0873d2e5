pub mod Arguments
pub mod Commands
pub mod Plain
pub mod Left
pub mod Laws

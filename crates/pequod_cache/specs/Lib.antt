pub mod Clients
pub mod Questions
pub mod Sitting
pub mod Alone
pub mod Adding
pub mod Meeting
pub mod Scanning

pub mod Books
pub mod Weighed

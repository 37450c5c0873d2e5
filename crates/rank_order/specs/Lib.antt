pub mod Walks
pub mod Raises
pub mod Answers

pub mod Ranges
pub mod Containing
pub mod RangeLaws
pub mod ContainingLaws
pub mod Worked
pub mod AnswerLaws

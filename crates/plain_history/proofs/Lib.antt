pub mod KeptLemmas
pub mod AnswerLemmas
pub mod ComparedLemmas

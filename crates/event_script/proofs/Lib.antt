pub mod AnswerLemmas
pub mod ItemLemmas
pub mod ScriptLemmas
pub mod AppendLemmas

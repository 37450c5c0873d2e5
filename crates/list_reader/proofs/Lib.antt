mod WrittenLemmas
mod ComparedLemmas
pub mod RangeSlotLemmas

mod AllLemmas
mod ResultLemmas
mod OrderedLemmas
mod FoundLemmas
mod LaidLemmas
mod LeafLemmas
mod WithinLemmas
mod DropLemmas
mod MergeLemmas
pub mod PlacedLemmas
pub mod FittingLemmas
pub mod NeedLemmas
pub mod OrderLemmas
mod KeyLemmas

pub mod ListingLemmas
pub mod SpotLemmas
pub mod PartLemmas
pub mod DirectoryLemmas
pub mod CellLemmas
mod HandingLemmas
pub mod LayerLemmas
mod RangeHandingLemmas

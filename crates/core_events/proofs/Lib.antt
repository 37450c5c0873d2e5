pub mod Computes
pub mod PlainLemmas
pub mod WorldLemmas
pub mod PrintedLemmas
pub mod ScriptLemmas
pub mod BoundLemmas
pub mod ScanLemmas
pub mod PlaceLemmas

mod OrderLemmas
mod ChangeOrderLemmas
mod ListLemmas
pub mod ApplyingLemmas
pub mod LongerLemmas
mod AskingLemmas
pub mod SettingLemmas
mod FillingLemmas
pub mod CountLemmas
mod RingLemmas
pub mod SinceLemmas
pub mod ReadLemmas
pub mod FillLemmas
pub mod NothingLemmas
pub mod HeldLemmas
pub mod SoundLemmas
pub mod ListingLemmas
pub mod MendLemmas
pub mod NotingLemmas
pub mod AdvanceLemmas
pub mod CostLemmas
pub mod CountedLemmas
pub mod MarkLemmas
pub mod LittleLemmas
pub mod GoneOnLemmas

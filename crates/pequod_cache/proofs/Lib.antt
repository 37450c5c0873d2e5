pub mod ToldLemmas
pub mod JoinsLemmas
pub mod ClientLemmas
pub mod SeatLemmas
pub mod EarlierLemmas
pub mod AddingLemmas
pub mod MeetLemmas
pub mod ScanningLemmas

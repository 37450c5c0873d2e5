pub mod StaffLemmas
pub mod ReceiptLemmas
pub mod AcceptLemmas
pub mod EndLemmas

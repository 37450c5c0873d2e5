pub mod PendingLemmas
mod IndexLemmas

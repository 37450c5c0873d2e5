pub mod Jobs
pub mod Holdings

pub mod Runs
pub mod CopyRows
pub mod AggregateRows
pub mod RefusalRows
pub mod EarlierRows
pub mod InputRows

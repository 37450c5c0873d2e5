pub mod WalkSteps
pub mod DistanceMarks
pub mod RankRaises
pub mod LeastWalks
pub mod Falls
pub mod JoinedReadings

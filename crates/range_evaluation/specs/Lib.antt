pub mod Trees
pub mod TreeLaws
pub mod PathLaws
pub mod Worked
pub mod Contributions
pub mod ContributionLaws

pub mod Fours
pub mod Rows
pub mod Sums
pub mod Updates

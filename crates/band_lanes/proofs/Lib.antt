pub mod Floors
pub mod Fours
pub mod FourUpdates
pub mod LongRows
pub mod Rows
pub mod Sums
pub mod Updates

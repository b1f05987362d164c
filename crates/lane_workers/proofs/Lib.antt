pub mod Ranges
pub mod Runs

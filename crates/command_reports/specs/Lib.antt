pub mod Unfold
pub mod Lines
pub mod Status

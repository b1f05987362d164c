pub mod Examples
pub mod Unfold

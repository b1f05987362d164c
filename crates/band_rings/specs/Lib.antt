pub mod Ends
pub mod Unfold
pub mod Lane

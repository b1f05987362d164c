pub mod ByRows
pub mod Command
pub mod Compress
pub mod Expand
pub mod Inspect
pub mod Piped
pub mod Show
pub mod Taking

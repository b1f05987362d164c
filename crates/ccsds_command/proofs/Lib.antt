mod HandingOn
mod Rows
pub mod Inspecting
pub mod Planned
pub mod Runs
pub mod Showing

pub mod Feeds
pub mod Runs
pub mod Stages
pub mod States

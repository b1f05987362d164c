pub mod Settings
pub mod Words
pub mod Options
pub mod Reading
pub mod Worked

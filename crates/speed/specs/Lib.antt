pub mod Bodies
pub mod Collecting
pub mod Formats
pub mod Images
pub mod Measured
pub mod Numbers

pub mod Devices
pub mod Streams

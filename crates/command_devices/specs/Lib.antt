pub mod Cut
pub mod Devices
pub mod Reading
pub mod Streams
pub mod Writing

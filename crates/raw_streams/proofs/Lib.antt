pub mod RowStreams
pub mod Streams
pub mod Told
pub mod WideRows

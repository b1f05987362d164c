pub mod Decoding
pub mod Tiles

pub mod Found
pub mod Givers
mod Tiling
mod Storing
pub mod TileWalk

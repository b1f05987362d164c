pub mod Lanes
pub mod Squares
pub mod Turning
pub mod TurningFour

pub mod GroupLanes
pub mod GroupLines
pub mod GroupPieces
pub mod GroupRooms
pub mod LongRooms

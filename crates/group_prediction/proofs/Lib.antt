pub mod GroupFilled
pub mod GroupLanes
pub mod GroupLines
pub mod GroupPieces
pub mod GroupRuns
pub mod LongLanes

pub mod File
pub mod Files
pub mod Laws
pub mod MinimumLength

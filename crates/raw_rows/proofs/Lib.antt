pub mod RowImages
pub mod RowSizes

pub mod FileLaws
pub mod FineFiles
pub mod Packed
pub mod WrittenFiles

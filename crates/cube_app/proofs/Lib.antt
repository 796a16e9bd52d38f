pub mod Ordered
pub mod TwinFiles

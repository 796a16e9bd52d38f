pub mod Floats
pub mod Zips

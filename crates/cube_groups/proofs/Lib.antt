pub mod Stated
pub mod Kept

pub mod Reading
pub mod Kept
pub mod Examining
pub mod Fitting
pub mod Soundly
pub mod Told

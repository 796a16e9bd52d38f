pub mod Lines
pub mod Nearness
pub mod Shown

mod Records
pub mod Told
pub mod Trails
pub mod Leaving
pub mod Outcomes
pub mod Scrolled

pub mod Colourings
pub mod Forests
pub mod Steps
pub mod Outcomes

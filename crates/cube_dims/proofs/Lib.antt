pub mod Hierarchy
pub mod Accepted
pub mod PathChecks
pub mod Dimensions
pub mod Measures
pub mod Whole

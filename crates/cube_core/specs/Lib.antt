pub mod Full
pub mod Grouping
pub mod Index
pub mod Keys
pub mod Rows
pub mod Tallies
pub mod Worked

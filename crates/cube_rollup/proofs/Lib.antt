pub mod Sums
pub mod Unions
pub mod Cells
pub mod Keeping

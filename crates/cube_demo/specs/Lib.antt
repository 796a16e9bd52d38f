pub mod Counting
pub mod Hiding
pub mod Summary
pub mod Writing
pub mod Examples

pub mod Names
pub mod Steps
pub mod Counting
pub mod Seen
pub mod FirstRows

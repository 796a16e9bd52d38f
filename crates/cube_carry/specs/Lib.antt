pub mod Names
pub mod Continues
pub mod Carrying
pub mod TwoLives
pub mod ManyLives
pub mod Rows

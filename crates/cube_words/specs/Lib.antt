pub mod Drafting
pub mod Help
pub mod Words

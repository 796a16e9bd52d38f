pub mod Accepted
pub mod Behind
pub mod Groups
pub mod Ended
pub mod Causes

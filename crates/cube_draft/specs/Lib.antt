pub mod Words
pub mod Drafts
pub mod Kept
pub mod Leaves
pub mod Examples

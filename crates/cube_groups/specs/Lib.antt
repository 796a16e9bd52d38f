pub mod GroupsFile
pub mod Rules
pub mod Words
pub mod Examples

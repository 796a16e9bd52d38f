pub mod Phrases
pub mod Played
mod Listening
pub mod Grouped
pub mod GroupLogs
pub mod Shared
pub mod Unruled
pub mod Causes
pub mod Opened

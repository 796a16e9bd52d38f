pub mod PolicyFile
pub mod Words
pub mod Examples
pub mod KnownKeys

pub mod Serving
pub mod Replaying
pub mod Examples

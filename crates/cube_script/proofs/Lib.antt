pub mod Playable
pub mod Reading
pub mod Ready
pub mod Rendering

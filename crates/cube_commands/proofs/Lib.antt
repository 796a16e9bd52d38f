pub mod Worlds
mod Advised
mod Compacts
pub mod Handed
mod Handing
pub mod Lives
mod Putting
pub mod Said
mod Unread
mod Causes
mod Behind
mod Whether

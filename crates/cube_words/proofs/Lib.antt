pub mod Commands
pub mod Drafted
pub mod Given

pub mod Feeding
pub mod SealBytes
pub mod SealStates
pub mod Taken

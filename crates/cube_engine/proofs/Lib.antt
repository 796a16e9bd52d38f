pub mod Alone
pub mod Alike
pub mod KeepsAll
pub mod Named
pub mod Worlds
pub mod Settled
mod Preparing
mod Logs
mod Cuboids

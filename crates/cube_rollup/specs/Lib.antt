pub mod Cuboids
pub mod Rollups

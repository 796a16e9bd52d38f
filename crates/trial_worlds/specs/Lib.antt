pub mod Deeds
pub mod OneClient
pub mod Pairs

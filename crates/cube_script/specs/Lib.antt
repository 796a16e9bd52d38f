pub mod Heads
pub mod Playing
pub mod Plays
pub mod Capacity
pub mod Scripts

pub mod Items
pub mod Turns
pub mod Tabled
pub mod Loops
pub mod Nonempty

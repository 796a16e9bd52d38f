pub mod Examples
pub mod Laws
pub mod Seals
pub mod Values

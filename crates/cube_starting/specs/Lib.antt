pub mod Starting
pub mod NamedBooks
pub mod Grouping
pub mod OneCube
pub mod Laws

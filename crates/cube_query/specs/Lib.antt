pub mod Grammar
pub mod Reading
pub mod Laws
pub mod Requests
pub mod Placing
pub mod Canonical
pub mod Faults

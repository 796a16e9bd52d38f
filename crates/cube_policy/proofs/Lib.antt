pub mod Found
pub mod Rising
pub mod Measures
pub mod Slices
pub mod Objects
pub mod Rules

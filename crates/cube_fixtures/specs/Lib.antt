pub mod Policies
pub mod Worked

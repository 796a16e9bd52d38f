pub mod Guarded
pub mod Worked

pub mod Runs
pub mod Serves
pub mod Texts
pub mod TwinFiles

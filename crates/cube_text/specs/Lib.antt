pub mod Units
pub mod UnitLaws
pub mod Quoting
pub mod Keys
pub mod Counts

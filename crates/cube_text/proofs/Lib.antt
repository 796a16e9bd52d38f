pub mod Digits
pub mod UnitsReadBack
pub mod Quotes
pub mod NameLaws
pub mod Lines

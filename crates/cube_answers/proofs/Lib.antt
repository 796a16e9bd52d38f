pub mod Keys
pub mod Plain
pub mod Valid
pub mod RowLines
pub mod Digits

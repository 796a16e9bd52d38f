pub mod Reports
pub mod Causes
pub mod Opening
pub mod Ruling
pub mod Outside

mod Digits
pub mod Digested
mod Entries
mod Fields
pub mod KeptBytes
mod Levels
mod Lengths
pub mod LineFacts
pub mod Longer
mod OpeningSteps
mod Publics
mod Recovering
pub mod SecondBack
mod Steps

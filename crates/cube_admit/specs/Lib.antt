pub mod Boxes
pub mod Compacting
pub mod Linking
pub mod Needs
pub mod Sources
pub mod States
pub mod Taking

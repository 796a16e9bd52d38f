pub mod Few
pub mod Linking
pub mod Meets
pub mod Standing
pub mod Tables
pub mod Colours
pub mod Judging
pub mod Boxes
mod Taking
mod Compacting

mod Appending
mod Ending
mod Holding
mod Parting
mod Paths
mod Replacing
mod Tying

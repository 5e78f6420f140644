pub mod Waits
pub mod Swaps
pub mod Unlocking

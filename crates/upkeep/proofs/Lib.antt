pub mod Counts
pub mod Drains

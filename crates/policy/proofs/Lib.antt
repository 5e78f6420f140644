pub mod Highest
pub mod Longest
pub mod Mentioned
pub mod Tables

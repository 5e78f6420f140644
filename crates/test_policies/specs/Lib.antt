pub mod Counting
pub mod Telling

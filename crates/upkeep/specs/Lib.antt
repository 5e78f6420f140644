pub mod Counting
pub mod Draining
pub mod Holding

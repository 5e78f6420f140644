pub mod Events
pub mod Tallying
pub mod Copies
pub mod Statistics
pub mod Naming

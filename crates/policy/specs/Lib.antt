pub mod Meaning
pub mod Extents
pub mod Turns
pub mod Ages
pub mod Lawful
pub mod Mentions

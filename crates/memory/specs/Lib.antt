pub mod Blocks
pub mod Copying
pub mod Dead
pub mod Layers
pub mod Meaning
pub mod Words
pub mod Lawful

pub mod Parts
pub mod Numbers
pub mod Commands
pub mod Lines
pub mod Texts
pub mod Reading
pub mod Ranges
pub mod Left
